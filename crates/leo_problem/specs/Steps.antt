-- What single steps of loading find. For private contracts.
use Rattle.std.specs.Prelude.{◌≡◌, ℕ, Bool, ◌||◌, List, [], ◌∷◌, ◌++◌, map, length, drop, slice_get, Some, None, if◌then◌else◌}
use Rattle.leo_q0.specs.Terms.{Term, truth}
use Rattle.leo_terms.specs.Contents.{Contents, Extends}
use Rattle.leo_elab.specs.Table.{Table, AreNamesOf, declared_in}
use Rattle.leo_syntax.specs.declared.tree.Tree.{Tree}
use Rattle.leo_elab.specs.declared.refusal.ElabRefusal.{ElabRefusal}
use Rattle.leo_elab.specs.Problem.{Declared}
use Rattle.leo_elab.specs.Meaning.{Means}
use Rattle.leo_elab.specs.Offences.{OffendsAsFormula}
use Rattle.leo_elab.specs.Typings.{IsFirstOffence}
use Rattle.leo_problem.specs.declared.gathered.Kept.{Kept}
use Rattle.leo_problem.specs.declared.roles.Role.{Role}
use Rattle.leo_problem.specs.declared.refusal.LoadRefusal.{LoadRefusal}
use Rattle.leo_problem.specs.declared.refusal.LoadRefusal.TheVariants.{Refused}
use Rattle.leo_problem.specs.declared.refusal.What.TheVariants as what
use Rattle.leo_problem.specs.Roles.{assumed}
use Rattle.leo_problem.specs.declared.loaded.Hyp.{Hyp}
use Rattle.leo_problem.specs.Loading.{AreClosedFormulas, hypothesis_in}
use Rattle.leo_problem.specs.Theories.{conjectures, has_conjecture, unlisted_role, byte_of, typings, typing_files, meaning_refusal, Hypothesis, AreHypotheses, OffendsInFormulas}

-- the refusal is that of a second conjecture
pub record RefusesSecond (ks : List Kept) (r : LoadRefusal) : Type 0 where
  pub second : Kept
  pub stands : slice_get (conjectures ks) 1 ≡ Some second
  pub refusal : r ≡ Refused second.file (byte_of second.statement) what.Conjectures

-- the refusal is that of the first typing that offends
pub record OffendsInTypings (ks : List Kept) (r : LoadRefusal) : Type 0 where
  pub place : ℕ
  pub file : List ℕ
  pub cause : ElabRefusal
  pub offends : IsFirstOffence (typings ks) place cause
  pub stands : slice_get (typing_files ks) place ≡ Some file
  pub refusal : r ≡ meaning_refusal file cause

-- the term is what a statement with that formula assumes
pub record AssumesTree (d : Declared) (role : Role) (tree : Tree) (s : Term) : Type 0 where
  pub term : Term
  pub means : Means d [] tree term truth
  pub assumes : s ≡ assumed role term

-- the refusal is that of the formula
pub record OffendsInTree (d : Declared) (file : List ℕ) (tree : Tree) (r : LoadRefusal) : Type 0 where
  pub cause : ElabRefusal
  pub offends : OffendsAsFormula d [] tree cause
  pub refusal : r ≡ meaning_refusal file cause

-- with the statement, whatever comes behind it, these hypotheses become those
pub record AssumesMore (d : Declared) (k : Kept) (before now : List Hypothesis) : Type 0 where
  pub more : List Hypothesis
  pub appended : now ≡ before ++ more
  pub assumes : (ks : List Kept) (later : List Hypothesis) → AreHypotheses d ks later → AreHypotheses d (k ∷ ks) (more ++ later)
  pub passes : (ks : List Kept) (r : LoadRefusal) → OffendsInFormulas d ks r → OffendsInFormulas d (k ∷ ks) r

-- the refusal is that of the statement, whatever comes behind it
pub record OffendsThere (d : Declared) (k : Kept) (r : LoadRefusal) : Type 0 where
  pub offends : (ks : List Kept) → OffendsInFormulas d (k ∷ ks) r

-- the conjectures before a place are counted
pub record AreCountedUpTo (found : Bool) (ks : List Kept) (place : ℕ) : Type 0 where
  pub front : List Kept
  pub whole : conjectures ks ≡ front ++ conjectures (drop place ks)
  pub count : length front ≡ (if found then 1 else 0)
  pub any : has_conjecture ks ≡ (found || has_conjecture (drop place ks))

-- what the statements before a place assume is found, in a bank that grew from another
pub record AreAssumedUpTo (b c : Contents) (n : Table) (ks : List Kept) (found : List Hyp) (place : ℕ) : Type 0 where
  pub names : AreNamesOf c n
  pub same : declared_in c n ≡ declared_in b n
  pub grows : Extends b c
  pub closed : AreClosedFormulas c found
  pub listed : unlisted_role (drop place ks) ≡ None
  pub assumed : (later : List Hypothesis) → AreHypotheses (declared_in b n) (drop place ks) later → AreHypotheses (declared_in b n) ks (map (hypothesis_in c) found ++ later)
  pub passed : (r : LoadRefusal) → OffendsInFormulas (declared_in b n) (drop place ks) r → OffendsInFormulas (declared_in b n) ks r
