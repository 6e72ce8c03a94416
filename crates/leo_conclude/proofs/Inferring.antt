-- The normal form of a clause, and its instance under a solution.
use Rattle.std.proofs.Common.{ℕ, zero, suc, ◌≡◌, ◌∙◌, ◌+◌, ◌<◌, ◌≤◌, List, [], ◌∷◌, ◌++◌, length, map, take, refl, sym, ap, subst, arith}
use Rattle.leo_q0.specs.Terms.{SimpleType, arrow}
use Rattle.leo_terms.specs.Contents.{Contents, Extends, tree_at, type_at}
use Rattle.leo_terms.specs.Tree.{Tree, variable, bound, symbol, app, lam, logic, absent, codomain, type_of, substituted}
use Rattle.leo_terms.proofs.CallerLemmas.{new_bank, extends-trans, trees-kept, are_terms-kept}
use Rattle.leo_clause.specs.declared.clause.Clause.{Clause}
use Rattle.leo_clause.specs.declared.clause.Lit.{Lit}
use Rattle.leo_clause.specs.declared.record.Rule.TheVariants as record_of
use Rattle.leo_clause.specs.Renaming.{AreGiven, AreRenamed, substituted_literal}
use Rattle.leo_clause.specs.Trees.{Literal, ClauseTree, clause_at, literal_at}
use Rattle.leo_clause.specs.Typed.{AreLiteralsOf, AreTypesOf, IsOver, AreTyped, IsTyped, IsTypedIn}
use Rattle.leo_kernel.specs.Conclusions.{AreConverted}
use Rattle.leo_kernel.specs.Conditions.{AreTermsFor}
use Rattle.leo_kernel.specs.Steps.{convert, inst}
use Rattle.leo_kernel.proofs.Growing.{clause-grow, clause-kept, types-grow, types-kept, lits-grow, lits-kept}
use Rattle.leo_clausify.specs.Literals.{AreLiterals}
use Rattle.leo_clausify.specs.Splitting.{AreNormal, normal_literal}
use Rattle.leo_clausify.proofs.Banks.{literals-well}
use Rattle.leo_clausify.proofs.Following.{AreWell, normals-typed}
use Rattle.leo_clausify.proofs.Reducts.{normal-twice}
use Rattle.leo_unify.specs.Contexts.{AreGivenOver, AreTermsIn}
use Rattle.leo_unify.specs.Solutions.{IsSigmaOf, sigma_at}
use Rattle.leo_unify.specs.declared.sigma.Sigma.{Sigma}
use Rattle.leo_unify.proofs.Over.{given-over, over-lifted_closed, over-substituted}
use Rattle.leo_conclude.specs.declared.derived.Derived.{Derived}
use Rattle.leo_conclude.specs.Conclusions.{instance, normal_clause}
use Rattle.leo_conclude.specs.Deriving.{IsDerived, IsDerivedAs}
use Rattle.leo_conclude.specs.Origins.{IsSolutionFrom}
use Rattle.leo_conclude.proofs.Origins.{literals-substituted, normals-from}
use Rattle.leo_conclude.proofs.Steps.{IsGiven, derived-first, derived-step, from-read}

-- a clause and its normal form
converted-all : (ls : List Literal) → AreWell ls → AreConverted ls (map normal_literal ls)
converted-all [] w = tt
converted-all (l ∷ ls) w = (record { polarity = refl; left_form = normal-twice l.left w.0; right_form = normal-twice l.right w.1 }, converted-all ls w.2)

normals-normal : (ls : List Literal) → AreWell ls → AreNormal (map normal_literal ls)
normals-normal [] w = tt
normals-normal (l ∷ ls) w = (normal-twice l.left w.0, normal-twice l.right w.1, normals-normal ls w.2)

normal-follows : (c : ClauseTree) → IsTyped c → AreWell c.literals → IsGiven c (normal_clause c) convert
normal-follows c typed w lines p within is h =
    record {
      parents = within;
      literals = tt;
      place = tt;
      types = record { clause_typed = normals-typed c.variables c.literals w typed; rule_typed = tt };
      symbols = tt;
      shape = rw is (refl, converted-all c.literals w);
    }

-- a clause whose parts are read
clause-read : (c : Contents) (k : Clause) (tree : ClauseTree) → map (type_at c) k.vars ≡ tree.variables → map (literal_at c) k.lits ≡ tree.literals → clause_at c k ≡ tree
clause-read c k tree p q = rw (p, q) refl

typed-read : (c : Contents) (k : Clause) (tree : ClauseTree) → AreTypesOf c k.vars → AreLiteralsOf c k.lits → clause_at c k ≡ tree → IsTyped tree → IsTypedIn c k
typed-read c k tree types literals e typed = record { of_bank = record { types_of = types; literals_of = literals }; typed = subst IsTyped (sym e) typed }

some-more : {X : Type 0} (xs : List X) (x : X) → 0 < length (xs ++ x ∷ [])
some-more [] x = omega arith
some-more (y ∷ xs) x = let e = some-more xs x in omega arith

-- the clause of d in normal form, one step further
module _ {b c : Contents} (e : Extends b c) (start : ClauseTree) (d r : Derived) (k : Clause) (tree : ClauseTree) (derived : IsDerived c start d) (reads : clause_at c d.clause ≡ tree) (vars : map (type_at c) k.vars ≡ tree.variables) (types : AreTypesOf c k.vars) (literals : AreLiterals c k.lits (map normal_literal tree.literals)) (clause : r.clause ≡ k) (records : r.records ≡ d.records ++ record { clause = k; rule = record_of.Convert (length d.records) } ∷ []) where
  well : AreWell tree.literals
  well = subst (λ (t : ClauseTree). AreWell t.literals) reads (literals-well c (new_bank e) d.clause.lits derived.typed.of_bank.literals_of)

  typed : IsTyped tree
  typed = subst IsTyped reads derived.typed.typed

  now : clause_at c k ≡ normal_clause tree
  now = clause-read c k (normal_clause tree) vars literals.reads

  pub normal-derived : IsDerivedAs c start r (normal_clause tree)
  normal-derived =
      let t = typed-read c k (normal_clause tree) types literals.literals_of now (normals-typed tree.variables tree.literals well typed) in
      record {
        derived = derived-step c start d r k (record_of.Convert (length d.records)) convert derived clause records t tt refl (rw (reads, now) (normal-follows tree typed well))
            (from-read start (clause_at c d.clause) tree (clause_at c k) (normal_clause tree) (convert (length d.records)) reads now (λ o b s p. ((p.0, normals-from o b tree.literals p.1), tt)));
        some = rw records (some-more d.records _);
        reads = ap (clause_at c) clause ∙ now;
        normal = normals-normal tree.literals well;
      }

-- what a solution gives for variables
given-terms : (old new : List SimpleType) (given : List Tree) → AreTermsIn new given → map type_of given ≡ old → AreGivenOver old new given
given-terms [] new [] h e n a g = absurd (cc)
given-terms [] new (t ∷ given) h e n a g = absurd (cc)
given-terms (b ∷ old) new [] h e n a g = absurd (cc)
given-terms (b ∷ old) new (t ∷ given) h e zero a g = (t, refl, (let p : type_of t ≡ b = cc in let q : b ≡ a = cc in p ∙ q), h.0)
given-terms (b ∷ old) new (t ∷ given) h e (suc n) a g = given-terms old new given h.2 (cc) n a g

terms-for : (old new : List SimpleType) (given : List Tree) → AreTermsIn new given → map type_of given ≡ old → AreTermsFor new old given
terms-for [] new [] h e = tt
terms-for [] new (t ∷ given) h e = absurd (cc)
terms-for (b ∷ old) new [] h e = absurd (cc)
terms-for (b ∷ old) new (t ∷ given) h e = (cc, h.0, terms-for old new given h.2 (cc))

module _ (vs ws : List SimpleType) (given : List Tree) (g : AreGivenOver vs ws given) where
  type-substituted : (t : Tree) (d k : ℕ) → IsOver vs d t → type_of (substituted given k t) ≡ type_of t
  type-substituted (variable n b) d k h = (let w = g n b h in rw (w.1, over-lifted_closed ws w.0 k w.3) w.2)
  type-substituted (bound i b) d k h = refl
  type-substituted (symbol s b) d k h = refl
  type-substituted (app f x) d k h = ap codomain (type-substituted f d k h.0)
  type-substituted (lam b t) d k h = ap (arrow b) (type-substituted t (d + 1) (k + 1) h)
  type-substituted (logic c x y) d k h = refl
  type-substituted absent d k h = refl

  instance-typed : (ls : List Literal) → AreTyped vs ls → AreTyped ws (map (substituted_literal given) ls)
  instance-typed [] h = tt
  instance-typed (l ∷ ls) h = (
    record {
      left_over = over-substituted vs ws given g l.left 0 0 h.0.left_over;
      right_over = over-substituted vs ws given g l.right 0 0 h.0.right_over;
      same_type = type-substituted l.left 0 0 h.0.left_over ∙ h.0.same_type ∙ sym (type-substituted l.right 0 0 h.0.right_over);
    },
    instance-typed ls h.1,
  )

  pub instance-given : (ls : List Literal) → AreTyped vs ls → AreGiven given ls
  instance-given [] h = tt
  instance-given (l ∷ ls) h = (given-over vs ws given g l.left 0 h.0.left_over, given-over vs ws given g l.right 0 h.0.right_over, instance-given ls h.1)

instance-follows : (c : ClauseTree) (new : List SimpleType) (given : List Tree) → IsTyped c → AreTermsIn new given → map type_of given ≡ c.variables → IsGiven c (record { variables = new; literals = map (substituted_literal given) c.literals }) (λ p. inst p given)
instance-follows c new given typed h e lines p within is k =
    record {
      parents = within;
      literals = tt;
      place = tt;
      types = record {
        clause_typed = instance-typed c.variables new given (given-terms c.variables new given h e) c.literals typed;
        rule_typed = rw is (terms-for c.variables new given h e, instance-given c.variables new given (given-terms c.variables new given h e) c.literals typed);
      };
      symbols = tt;
      shape = rw is refl;
    }

pub sigma-given : (c : Contents) (k : Clause) (s : Sigma) → IsTypedIn c k → IsSigmaOf c (clause_at c k).variables s → AreGiven (map (tree_at c) s.terms) (map (literal_at c) k.lits)
sigma-given c k s typed h =
    let vs = (clause_at c k).variables in
    let ws = map (type_at c) s.vars in
    let given = map (tree_at c) s.terms in
    instance-given vs ws given (given-terms vs ws given h.terms_in h.typed) (clause_at c k).literals typed.typed

-- the instance under a solution, as the bank grows
module _ {b c d : Contents} (e : Extends b c) (f : Extends c d) (k : Clause) (s : Sigma) (typed : IsTypedIn b k) (sigma : IsSigmaOf b (clause_at b k).variables s) (from : IsSolutionFrom (clause_at b k) (sigma_at b s)) (lits normals : List Lit) (made : AreRenamed b c s.terms k.lits lits (length k.lits)) (normal : AreLiterals d normals (map normal_literal (map (literal_at c) lits))) (first second last : Derived) (vars terms normal_vars : List ℕ) (vars_are : vars ≡ s.vars) (normal_vars_are : normal_vars ≡ s.vars) (terms_are : terms ≡ s.terms) (unchanged : first ≡ record { clause = k; records = [] })
    (second_clause : second.clause ≡ record { vars = vars; lits = lits }) (second_records : second.records ≡ first.records ++ record { clause = record { vars = vars; lits = lits }; rule = record_of.Inst 0 terms } ∷ [])
    (last_clause : last.clause ≡ record { vars = normal_vars; lits = normals }) (last_records : last.records ≡ second.records ++ record { clause = record { vars = normal_vars; lits = normals }; rule = record_of.Convert 1 } ∷ []) where
  all : Extends b d
  all = extends-trans e f

  abbrev middle : ClauseTree
  middle = record { variables = map (type_at b) s.vars; literals = map (substituted_literal (map (tree_at b) s.terms)) (clause_at b k).literals }

  take-all : {X : Type 0} (xs : List X) (n : ℕ) → length xs ≤ n → take n xs ≡ xs
  take-all [] zero h = refl
  take-all [] (suc n) h = refl
  take-all (x ∷ xs) zero h = absurd (omega arith)
  take-all (x ∷ xs) (suc n) h = ap (λ (ys : List _). x ∷ ys) (take-all xs n (omega arith))

  length-map : {X Y : Type 0} (g : X → Y) (xs : List X) → length (map g xs) ≡ length xs
  length-map g [] = refl
  length-map g (x ∷ xs) = ap suc (length-map g xs)

  lits-read : map (literal_at c) lits ≡ middle.literals
  lits-read =
      let n = length-map (substituted_literal (map (tree_at b) s.terms)) (map (literal_at b) k.lits) in
      let m = length-map (literal_at b) k.lits in
      made.value ∙ take-all (map (substituted_literal (map (tree_at b) s.terms)) (map (literal_at b) k.lits)) (length k.lits) (omega arith)

  second-read : clause_at d (record { vars = vars; lits = lits }) ≡ middle
  second-read = clause-read d (record { vars = vars; lits = lits }) middle (ap (map (type_at d)) vars_are ∙ types-kept all s.vars sigma.types_of) (lits-kept f lits made.literals_of ∙ lits-read)

  middle-typed : IsTyped middle
  middle-typed = instance-typed (clause_at b k).variables (map (type_at b) s.vars) (map (tree_at b) s.terms) (given-terms (clause_at b k).variables (map (type_at b) s.vars) (map (tree_at b) s.terms) sigma.terms_in sigma.typed) (clause_at b k).literals typed.typed

  start-kept : clause_at d k ≡ clause_at b k
  start-kept = clause-kept all k typed.of_bank

  first-derived : IsDerived d (clause_at b k) first
  first-derived = rw unchanged (derived-first d (clause_at b k) k (record { of_bank = clause-grow all k typed.of_bank; typed = subst IsTyped (sym start-kept) typed.typed }) start-kept)

  terms-read : map (tree_at d) terms ≡ map (tree_at b) s.terms
  terms-read = ap (map (tree_at d)) terms_are ∙ trees-kept all s.terms sigma.terms_of

  second-derived : IsDerived d (clause_at b k) second
  second-derived =
      let new : Clause = record { vars = vars; lits = lits } in
      let t : IsTypedIn d new = typed-read d new middle (rw vars_are (types-grow all s.vars sigma.types_of)) (lits-grow f lits made.literals_of) second-read middle-typed in
      let parent : clause_at d first.clause ≡ clause_at b k = ap (λ (x : Derived). clause_at d x.clause) unchanged ∙ start-kept in
      let count : length first.records ≡ 0 = ap (λ (x : Derived). length x.records) unchanged in
      derived-step d (clause_at b k) first second new (record_of.Inst 0 terms) (λ p. inst p (map (tree_at b) s.terms)) first-derived second_clause second_records t (rw terms_are (are_terms-kept all s.terms sigma.terms_of)) (rw (terms-read, count) refl)
      (rw (parent, second-read) (instance-follows (clause_at b k) (map (type_at b) s.vars) (map (tree_at b) s.terms) typed.typed sigma.terms_in sigma.typed))
      (from-read (clause_at b k) (clause_at d first.clause) (clause_at b k) (clause_at d new) middle (inst (length first.records) (map (tree_at b) s.terms)) parent second-read (λ o z g p. (let f = from o z g in ((f.0, literals-substituted o z (map (tree_at b) s.terms) f.1 (clause_at b k).literals g.1), f.1))))

  pub instance-derived : IsDerivedAs d (clause_at b k) last (instance (clause_at b k) (sigma_at b s))
  instance-derived =
      let reads : clause_at d second.clause ≡ middle = ap (clause_at d) second_clause ∙ second-read in
      let count : length second.records ≡ 1 = ap length second_records ∙ rw unchanged refl in
      let made-normal : AreLiterals d normals (map normal_literal middle.literals) = subst (λ (ls : List Literal). AreLiterals d normals (map normal_literal ls)) lits-read normal in
      let records : last.records ≡ second.records ++ record { clause = record { vars = normal_vars; lits = normals }; rule = record_of.Convert (length second.records) } ∷ [] = rw count last_records in
      normal-derived f (clause_at b k) second last (record { vars = normal_vars; lits = normals }) middle second-derived reads (ap (map (type_at d)) normal_vars_are ∙ types-kept all s.vars sigma.types_of) (rw normal_vars_are (types-grow all s.vars sigma.types_of)) made-normal last_clause records

-- the normal form of a clause
module _ {b c : Contents} (e : Extends b c) (k : Clause) (typed : IsTypedIn b k) (lits : List Lit) (normal : AreLiterals c lits (map normal_literal (map (literal_at b) k.lits))) (vars : List ℕ) (vars_are : vars ≡ k.vars) (first last : Derived) (unchanged : first ≡ record { clause = k; records = [] }) (clause : last.clause ≡ record { vars = vars; lits = lits }) (records : last.records ≡ first.records ++ record { clause = record { vars = vars; lits = lits }; rule = record_of.Convert 0 } ∷ []) where
  kept : clause_at c k ≡ clause_at b k
  kept = clause-kept e k typed.of_bank

  first-now : IsDerived c (clause_at b k) first
  first-now = rw unchanged (derived-first c (clause_at b k) k (record { of_bank = clause-grow e k typed.of_bank; typed = subst IsTyped (sym kept) typed.typed }) kept)

  pub normal-first : IsDerivedAs c (clause_at b k) last (normal_clause (clause_at b k))
  normal-first =
      let reads : clause_at c first.clause ≡ clause_at b k = ap (λ (x : Derived). clause_at c x.clause) unchanged ∙ kept in
      let count : length first.records ≡ 0 = ap (λ (x : Derived). length x.records) unchanged in
      normal-derived e (clause_at b k) first last (record { vars = vars; lits = lits }) (clause_at b k) first-now reads (ap (map (type_at c)) vars_are ∙ types-kept e k.vars typed.of_bank.types_of) (rw vars_are (types-grow e k.vars typed.of_bank.types_of)) normal clause (rw count records)
