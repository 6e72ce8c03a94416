-- What kept statements say together: the hypotheses as formulas of Q0.
use Rattle.std.specs.Prelude.{◌≡◌, ℕ, ◌≤◌, Bool, true, false, List, [], ◌∷◌, map, filter, length, slice_get, codes, Option, Some, None, if◌then◌else◌}
use Rattle.std.specs.Option.{is_some}
use Rattle.std.specs.List.{filter_map, list_any}
use Rattle.std.specs.Str.{bytes_eq}
use Rattle.leo_q0.specs.Terms.{Term, truth}
use Rattle.leo_syntax.specs.declared.tree.Tree.{Tree}
use Rattle.leo_syntax.specs.declared.tree.Statement.{Statement}
use Rattle.leo_syntax.specs.declared.tree.Statement.TheVariants as statement
use Rattle.leo_elab.specs.declared.refusal.ElabRefusal.{ElabRefusal}
use Rattle.leo_elab.specs.declared.refusal.ElabRefusal.TheVariants as elab
use Rattle.leo_elab.specs.Problem.{Declared}
use Rattle.leo_elab.specs.Meaning.{Means}
use Rattle.leo_elab.specs.Offences.{OffendsAsFormula}
use Rattle.leo_elab.specs.Typings.{Typing, AreDeclared, IsFirstOffence}
use Rattle.leo_problem.specs.declared.gathered.Kept.{Kept}
use Rattle.leo_problem.specs.declared.roles.Role.{Role}
use Rattle.leo_problem.specs.declared.refusal.LoadRefusal.{LoadRefusal}
use Rattle.leo_problem.specs.declared.refusal.LoadRefusal.TheVariants.{Refused, Memory}
use Rattle.leo_problem.specs.declared.refusal.What.TheVariants as what
use Rattle.leo_problem.specs.Roles.{role_of, assumed}

-- a hypothesis: its formula, and the file, the name and the role of its statement
pub record Hypothesis : Type 0 where
  pub formula : Term
  pub file : List ℕ
  pub name : List ℕ
  pub role : Role

-- what a problem says: what its atoms stand for, its hypotheses in order, whether one is a conjecture, and how many statements there are
pub record Theory : Type 0 where
  pub declared : Declared
  pub hypotheses : List Hypothesis
  pub conjecture : Bool
  pub statements : ℕ

-- ---- roles

-- where the role of a statement stands, if it is not listed
abbrev pub unlisted : Statement → Option ℕ
unlisted (statement.Formula byte name role role_byte tree) = if is_some (role_of role) then None else Some role_byte
unlisted _ = None

abbrev pub refused_role_or : List ℕ → Option ℕ → Option LoadRefusal → Option LoadRefusal
refused_role_or file None later = later
refused_role_or file (Some byte) later = Some (Refused file byte what.Role)

-- the refusal of the first role that is not listed
abbrev pub unlisted_role : List Kept → Option LoadRefusal
unlisted_role [] = None
unlisted_role (k ∷ ks) = refused_role_or k.file (unlisted k.statement) (unlisted_role ks)

-- the first byte of a statement, if it is a conjecture
abbrev pub conjectured : Statement → Option ℕ
conjectured (statement.Formula byte name role role_byte tree) = if bytes_eq role (codes "conjecture") then Some byte else None
conjectured _ = None

abbrev pub is_conjecture : Kept → Bool
is_conjecture k = is_some (conjectured k.statement)

abbrev pub conjectures : List Kept → List Kept
conjectures ks = filter is_conjecture ks

abbrev pub has_conjecture : List Kept → Bool
has_conjecture ks = list_any is_conjecture ks

abbrev pub byte_of : Statement → ℕ
byte_of (statement.Formula byte name role role_byte tree) = byte
byte_of (statement.Typing byte name atom atom_byte ty) = byte
byte_of (statement.Include byte file file_byte names) = byte

-- each role is listed, and there is one conjecture at most
pub record HaveRoles (ks : List Kept) : Type 0 where
  pub listed : unlisted_role ks ≡ None
  pub one_conjecture : length (conjectures ks) ≤ 1

-- ---- typings

abbrev pub typing_in : Statement → Option Typing
typing_in (statement.Typing byte name atom atom_byte ty) = Some (record { atom = atom; byte = atom_byte; ty = ty })
typing_in _ = None

-- the typings, in order
abbrev pub typings : List Kept → List Typing
typings ks = filter_map (λ k. typing_in k.statement) ks

abbrev pub is_typing : Statement → Bool
is_typing s = is_some (typing_in s)

-- and the files in which they stand
abbrev pub typing_files : List Kept → List (List ℕ)
typing_files ks = map (λ k. k.file) (filter (λ k. is_typing k.statement) ks)

-- the refusal of a file in which that is wrong
abbrev pub meaning_refusal : List ℕ → ElabRefusal → LoadRefusal
meaning_refusal file (elab.Twice byte) = Refused file byte what.Twice
meaning_refusal file (elab.Unknown byte) = Refused file byte what.Unknown
meaning_refusal file (elab.WrongType byte) = Refused file byte what.WrongType
meaning_refusal file (elab.Free byte) = Refused file byte what.Free
meaning_refusal file (elab.Unsupported byte form) = Refused file byte (what.Unsupported form)
meaning_refusal file elab.Memory = Memory

-- ---- formulas

abbrev pub is_formula : Statement → Bool
is_formula (statement.Formula byte name role role_byte tree) = true
is_formula _ = false

-- what the statements assume, in order
pub data AreHypotheses (d : Declared) : List Kept → List Hypothesis → Type 0 where
  no_more : AreHypotheses d [] []
  no_formula : {k : Kept} {ks : List Kept} {hs : List Hypothesis} → is_formula k.statement ≡ false → AreHypotheses d ks hs → AreHypotheses d (k ∷ ks) hs
  formula : {k : Kept} {byte role_byte : ℕ} {name word : List ℕ} {tree : Tree} {role : Role} {t : Term} {ks : List Kept} {hs : List Hypothesis}
      → k.statement ≡ statement.Formula byte name word role_byte tree → role_of word ≡ Some role → Means d [] tree t truth → AreHypotheses d ks hs
      → AreHypotheses d (k ∷ ks) (record { formula = assumed role t; file = k.file; name = name; role = role } ∷ hs)

-- the first formula that offends, where those before it have a meaning
pub data OffendsInFormulas (d : Declared) : List Kept → LoadRefusal → Type 0 where
  here : {k : Kept} {byte role_byte : ℕ} {name word : List ℕ} {tree : Tree} {ks : List Kept} {e : ElabRefusal}
      → k.statement ≡ statement.Formula byte name word role_byte tree → OffendsAsFormula d [] tree e → OffendsInFormulas d (k ∷ ks) (meaning_refusal k.file e)
  behind_no_formula : {k : Kept} {ks : List Kept} {r : LoadRefusal} → is_formula k.statement ≡ false → OffendsInFormulas d ks r → OffendsInFormulas d (k ∷ ks) r
  behind_formula : {k : Kept} {byte role_byte : ℕ} {name word : List ℕ} {tree : Tree} {t : Term} {ks : List Kept} {r : LoadRefusal}
      → k.statement ≡ statement.Formula byte name word role_byte tree → Means d [] tree t truth → OffendsInFormulas d ks r → OffendsInFormulas d (k ∷ ks) r

-- ---- the whole

-- what kept statements say, or the first refusal: of roles, then of conjectures, then of typings, then of formulas
pub data Answer : Type 0 where
  says : Theory → Answer
  refused : LoadRefusal → Answer

pub data Says (ks : List Kept) : Answer → Type 0 where
  bad_role : {r : LoadRefusal} → unlisted_role ks ≡ Some r → Says ks (refused r)
  second_conjecture : {k : Kept} → unlisted_role ks ≡ None → slice_get (conjectures ks) 1 ≡ Some k
      → Says ks (refused (Refused k.file (byte_of k.statement) what.Conjectures))
  bad_typing : {place : ℕ} {file : List ℕ} {e : ElabRefusal} → HaveRoles ks → IsFirstOffence (typings ks) place e → slice_get (typing_files ks) place ≡ Some file
      → Says ks (refused (meaning_refusal file e))
  bad_formula : {d : Declared} {r : LoadRefusal} → HaveRoles ks → AreDeclared (typings ks) d → OffendsInFormulas d ks r → Says ks (refused r)
  theory : {d : Declared} {hs : List Hypothesis} → HaveRoles ks → AreDeclared (typings ks) d → AreHypotheses d ks hs
      → Says ks (says (record { declared = d; hypotheses = hs; conjecture = has_conjecture ks; statements = length ks }))
