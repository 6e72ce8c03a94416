-- The members by the axiom of choice, in banks that grow.
use Rattle.std.proofs.Common.{ℕ, zero, suc, nat_eq, ◌≡◌, ◌∙◌, ◌<◌, ◌+◌, Bool, true, false, List, [], ◌∷◌, ◌++◌, length, map, slice_index_or, Option, Some, None, refl, sym, ap, append-nil, arith}
use Rattle.std.specs.Prelude.{IsTrue, MatchOption}
use Rattle.std.specs.List.{flat_map}
use Rattle.std.proofs.lemmas.List.{map-append}
use Rattle.std.proofs.lemmas.Bool.Decides.{nat_tests}
use Rattle.leo_q0.specs.Terms.{SimpleType, arrow}
use Rattle.leo_terms.specs.declared.node.Op.{Op}
use Rattle.leo_terms.specs.declared.node.Op.TheVariants as op
use Rattle.leo_terms.specs.declared.node.View.TheVariants.{Logic}
use Rattle.leo_terms.specs.Contents.{Contents, IsBank, Extends, IsTerm, IsArrow, IsProperty, AreTerms, argument, argument_type, type_at, tree_at, type_number}
use Rattle.leo_terms.specs.Tree.{Tree, variable, bound, symbol, app, lam, logic, absent, truth_type}
use Rattle.leo_terms.proofs.CallerLemmas.{HasView, arrow-parts, extends-trans, new_bank, reads-arrow, reads-logic, view-typed, term-kept, tree-kept, type-kept, type_number-kept, arrow-kept}
use Rattle.leo_clause.specs.declared.clause.Clause.{Clause}
use Rattle.leo_clause.specs.declared.clause.Lit.{Lit}
use Rattle.leo_clause.specs.declared.record.Rule.TheVariants as record_of
use Rattle.leo_clause.specs.declared.record.StepRecord.{StepRecord}
use Rattle.leo_clause.specs.Trees.{Literal, ClauseTree, clause_at, literal_at}
use Rattle.leo_clause.specs.Typed.{AreTypesOf, IsClauseOf}
use Rattle.leo_kernel.specs.Conclusions.{choice_clause}
use Rattle.leo_kernel.specs.Shapes.{choice_tree}
use Rattle.leo_kernel.specs.Steps.{Line, choose}
use Rattle.leo_kernel.specs.Tops.{IsPropertyOf}
use Rattle.leo_kernel.proofs.Growing.{clause-kept, types-grow, types-kept}
use Rattle.leo_kernel.proofs.LinesGrowing.{step-grow, step-kept}
use Rattle.leo_clausify.specs.Literals.{AreLiterals}
use Rattle.leo_para.specs.declared.member.Due.{Due}
use Rattle.leo_ext.specs.declared.choice.Chosen.{Chosen}
use Rattle.leo_ext.specs.declared.truths.Truths.{Truths}
use Rattle.leo_para.specs.Members.{is_formula}
use Rattle.leo_para.specs.Places.{places}
use Rattle.leo_ext.specs.Chosen.{IsChosen, IsNotChosen, choice_by}
use Rattle.leo_ext.specs.Listing.{Adds, IsStep}
use Rattle.leo_ext.specs.Members.{choice_at, choice_for, choice_in, choice_instance, choice_literals, choice_member}
use Rattle.leo_ext.specs.Terms.{AreWithin}
use Rattle.leo_ext.specs.Truths.{AreTruths, valued_lit}
use Rattle.leo_ext.proofs.Adding.{adds-as, adds-both, adds-two}
use Rattle.leo_ext.proofs.Casing.{two-valued}
use Rattle.leo_ext.proofs.Loops.{length-mapped}
use Rattle.leo_ext.proofs.Placed.{types-both}

pub within-kept : {c d : Contents} → Extends c d → (t : ℕ) → t < length c.terms → t < length d.terms
within-kept e t l = let m = e.terms_more in omega arith

pub truths-kept : {c d : Contents} → Extends c d → (t : Truths) → AreTruths c t → AreTruths d t
truths-kept e t h = record {
  yes_within = within-kept e t.yes h.yes_within;
  no_within = within-kept e t.no h.no_within;
  yes_reads = tree-kept e t.yes h.yes_within ∙ h.yes_reads;
  no_reads = tree-kept e t.no h.no_within ∙ h.no_reads;
}

pub property-grow : {c d : Contents} → Extends c d → {i p : ℕ} → IsPropertyOf c i p → IsPropertyOf d i p
property-grow {c} {d} e {i} {p} h =
    let m = e.types_more in
    let l = h.type_within in
    record { type_within = omega arith; within = within-kept e p h.within; typed = rw (type_number-kept e p h.within) (arrow-kept e h.typed) }

pub property-there : {c d : Contents} → Extends c d → {i p : ℕ} → IsPropertyOf c i p → IsProperty d (Some (type_number d p)) i
property-there {c} {d} e {i} {p} h = record { number = type_number d p; argument_is = refl; property = (property-grow e h).typed }

-- `P x`, `ε P` and `P (ε P)`
module _ {a b d e : Contents} (f : Extends a b) (g : Extends b d) (h : Extends d e) (ty p x : ℕ) (property : IsPropertyOf a ty p) (made : IsTerm a x ty (tree_at a x)) where
  pub literals-made : (t : Truths) → AreTruths a t → (some some-number term that that-number : ℕ) (ls : List Lit) → IsTerm b some some-number (app (tree_at a p) (tree_at a x)) → IsTerm d term ty (logic (Rattle.leo_terms.specs.Tree.choice (type_at b ty)) (tree_at b p) absent) → IsTerm e that that-number (app (tree_at d p) (tree_at d term))
      → ls ≡ valued_lit t some false ∷ valued_lit t that true ∷ [] → AreLiterals e ls (choice_literals (type_at a ty) (tree_at a p) (tree_at a x))
  literals-made t truths some some-number term that that-number ls ms mt mw is =
      let k = extends-trans f g in
      let z = extends-trans g h in
      let first : tree_at e some ≡ app (tree_at a p) (tree_at a x) = (term-kept z ms).reads in
      let chosen : tree_at d term ≡ choice_tree (type_at a ty) (tree_at a p) = mt.reads ∙ rw (type-kept f ty property.type_within, tree-kept f p property.within) refl in
      let second : tree_at e that ≡ app (tree_at a p) (choice_tree (type_at a ty) (tree_at a p)) = mw.reads ∙ rw (tree-kept k p property.within, chosen) refl in
      let all = two-valued e t (truths-kept (extends-trans k h) t truths) some that false true ls (term-kept z ms).within mw.within is in
      rw (first, second) at all

-- a step whose clause has these variables and literals
pub step-made : (d : Contents) (vars : List ℕ) (lits : List Lit) (rule : Rattle.leo_clause.specs.declared.record.Rule.Rule) (variables : List SimpleType) (literals : List Literal) (r : Rattle.leo_kernel.specs.Steps.StepRule) → AreTypesOf d vars → AreLiterals d lits literals → map (type_at d) vars ≡ variables → Rattle.leo_kernel.specs.Records.AreTermsOfRule d rule → Rattle.leo_kernel.specs.Steps.rule_at d rule ≡ r
    → IsStep d (record { clause = record { vars = vars; lits = lits }; rule = rule }) (record { clause = record { variables = variables; literals = literals }; rule = r })
step-made d vars lits rule variables literals r types made e terms f = record {
  step_of = record { clause_of = record { types_of = types; literals_of = made.literals_of }; terms_of = terms };
  reads = rw (e, made.reads, f) refl;
}

-- the axiom
pub axiom-property : {b d : Contents} → Extends b d → (ty i z p : ℕ) (s : Tree) → ty < length d.types → IsArrow b i ty z → z ≡ 0 → IsTerm d p i s → IsPropertyOf d ty p
axiom-property e ty i z p s within node zero-is m = record { type_within = within; within = m.within; typed = rw m.type_is (rw zero-is at (arrow-kept e node)) }

pub axiom-made : {a b c d e : Contents} → Extends a b → Extends b c → Extends c d → Extends d e → (ty i z p x : ℕ) → ty < length a.types → IsArrow b i ty z → z ≡ 0 → IsTerm c p i (variable 0 (type_at b i)) → IsTerm d x ty (variable 1 (type_at c ty)) → (lits : List Lit) → AreLiterals e lits (choice_literals (type_at d ty) (tree_at d p) (tree_at d x)) → (vars : List ℕ) → vars ≡ i ∷ ty ∷ []
    → IsStep e (record { clause = record { vars = vars; lits = lits }; rule = record_of.Choice }) (record { clause = choice_clause (type_at a ty); rule = choose })
axiom-made {a} {b} {c} {d} {e} f g h k ty i z p x within node zero-is mp mx lits made vars is =
    let bank = new_bank f in
    let t = arrow-parts bank node in
    let below = t.0 in
    let whole = extends-trans f (extends-trans g (extends-trans h k)) in
    let rest = extends-trans g (extends-trans h k) in
    let m = whole.types_more in
    let n = rest.types_more in
    let one : type_at b ty ≡ type_at a ty = type-kept f ty within in
    let two : type_at b i ≡ arrow (type_at a ty) truth_type = reads-arrow bank node ∙ rw (zero-is, Rattle.leo_kernel.proofs.TypeRules.truth-reads b bank, one) refl in
    let three : type_at c ty ≡ type_at a ty = type-kept (extends-trans f g) ty within in
    let four : type_at d ty ≡ type_at a ty = type-kept (extends-trans f (extends-trans g h)) ty within in
    let five : tree_at d p ≡ variable 0 (arrow (type_at a ty) truth_type) = tree-kept h p mp.within ∙ mp.reads ∙ ap (variable 0) two in
    let six : tree_at d x ≡ variable 1 (type_at a ty) = mx.reads ∙ ap (variable 1) three in
    let seven : type_at e i ≡ arrow (type_at a ty) truth_type = type-kept rest i below ∙ two in
    let eight : type_at e ty ≡ type_at a ty = type-kept whole ty within in
    let all : AreLiterals e lits (choice_literals (type_at a ty) (variable 0 (arrow (type_at a ty) truth_type)) (variable 1 (type_at a ty))) = rw (four, five, six) at made in
    step-made e vars lits record_of.Choice (choice_clause (type_at a ty)).variables (choice_clause (type_at a ty)).literals choose (rw is (omega arith, (omega arith, tt))) all (rw (is, seven, eight) refl) tt refl

two-terms : (c : Contents) (p x : ℕ) → p < length c.terms → x < length c.terms → AreTerms c (p ∷ x ∷ [])
two-terms c p x h g zero t e = (let f : p ≡ t = cc in rw (← f) h)
two-terms c p x h g (suc zero) t e = (let f : x ≡ t = cc in rw (← f) g)
two-terms c p x h g (suc (suc n)) t e = absurd (cc)

-- an instance of it
pub instance-made : {a b e : Contents} → Extends a b → Extends b e → (vars all sigma : List ℕ) → AreTypesOf a vars → (k : Chosen) → IsPropertyOf a k.ty k.property → (n x parent : ℕ) → n ≡ length vars → IsTerm b x k.ty (variable n (type_at a k.ty)) → (lits : List Lit) → AreLiterals e lits (choice_literals (type_at b k.ty) (tree_at b k.property) (tree_at b x)) → all ≡ vars ++ k.ty ∷ [] → sigma ≡ k.property ∷ x ∷ []
    → IsStep e (record { clause = record { vars = all; lits = lits }; rule = record_of.Inst parent sigma }) (choice_instance parent (map (type_at a) vars) (type_at a k.ty) (tree_at a k.property))
instance-made {a} {b} {e} f g vars all sigma types k property n x parent count mx lits made is given =
    let h = extends-trans f g in
    let m = h.types_more in
    let w = property.type_within in
    let y : length vars ≡ length (map (type_at a) vars) = sym (length-mapped (type_at a) vars) in
    let var : tree_at b x ≡ variable (length (map (type_at a) vars)) (type_at a k.ty) = mx.reads ∙ rw (count, y) refl in
    let one : type_at e k.ty ≡ type_at a k.ty = type-kept h k.ty w in
    let lits-read : AreLiterals e lits (choice_literals (type_at a k.ty) (tree_at a k.property) (variable (length (map (type_at a) vars)) (type_at a k.ty))) = rw (type-kept f k.ty w, tree-kept f k.property property.within, var) at made in
    let xr : tree_at e x ≡ variable (length (map (type_at a) vars)) (type_at a k.ty) = tree-kept g x mx.within ∙ var in
    let pr : tree_at e k.property ≡ tree_at a k.property = tree-kept h k.property property.within in
    let l = choice_instance parent (map (type_at a) vars) (type_at a k.ty) (tree_at a k.property) in
    step-made e all lits (record_of.Inst parent sigma) l.clause.variables l.clause.literals l.rule (rw is (types-both e vars (k.ty ∷ []) (types-grow h vars types) (omega arith, tt))) lits-read
    (ap (map (type_at e)) is ∙ map-append (type_at e) vars (k.ty ∷ []) ∙ rw (types-kept h vars types, one) refl)
    (rw given (two-terms e k.property x (within-kept h k.property property.within) (within-kept g x mx.within)))
    (rw (given, pr, xr) refl)

pub step-later : {d e : Contents} → Extends d e → (s : StepRecord) (l : Line) → IsStep d s l → IsStep e s l
step-later e s l h = record { step_of = step-grow e s h.step_of; reads = step-kept e s h.step_of ∙ h.reads }

-- the member
pub chosen-added : {a b e : Contents} → Extends a b → Extends b e → (q : Clause) → AreTypesOf a q.vars → (k : Chosen) → IsPropertyOf a k.ty k.property → (before parent : ℕ) (s t : StepRecord) (vars : List ℕ) (old after : List Due) (records : List StepRecord) → vars ≡ q.vars → parent ≡ before + 1 → IsStep b s (record { clause = choice_clause (type_at a k.ty); rule = choose }) → IsStep e t (choice_instance parent (map (type_at b) vars) (type_at b k.ty) (tree_at b k.property)) → records ≡ s ∷ t ∷ [] → after ≡ old ++ record { records = records; pairs = [] } ∷ []
    → Adds a e old after (choice_member before (clause_at a q) (type_at a k.ty) (tree_at a k.property) ∷ [])
chosen-added {a} {b} {e} f g q types k property before parent s t vars old after records is above first second are put =
    let z : parent ≡ suc before = omega arith in
    let last : IsStep e t (choice_instance (suc before) (map (type_at a) q.vars) (type_at a k.ty) (tree_at a k.property)) = rw (is, z, types-kept f q.vars types, type-kept f k.ty property.type_within, tree-kept f k.property property.within) at second in
    adds-two (extends-trans f g) old after s t [] _ _ (put ∙ rw are refl) (step-later g s _ first) last

-- what a test says
pub of-none : {X : Type 0} (o : Option X) (P : Type 0) (Q : X → Type 0) → ((x : X) → o ≡ Some x → ⊥) → MatchOption o P Q → P
of-none None P Q f h = h
of-none (Some x) P Q f h = absurd (f x refl)

pub not-closed : (n : ℕ) (r : Bool) → (n ≡ 0 → IsTrue r) → r ≡ false → nat_eq n 0 ≡ false
not-closed zero r f e = (let t : r ≡ true = f refl in let b : true ≡ false = sym t ∙ e in absurd (cc))
not-closed (suc n) r f e = grind (arith, nat_tests)

pub is-closed : (n : ℕ) (r : Bool) → (IsTrue r → n ≡ 0) → r ≡ true → nat_eq n 0 ≡ true
is-closed n r f e = (let t : n ≡ 0 = f e in rw t refl)

pub within-at : (c : Contents) (ts : List ℕ) → AreWithin c ts → (i t : ℕ) → i < length ts → t ≡ slice_index_or ts i t → t < length c.terms
within-at c [] h i t l e = absurd (omega arith)
within-at c (x ∷ ts) h zero t l e = rw e h.0
within-at c (x ∷ ts) h (suc i) t l e = within-at c ts h.1 i t (omega arith) e

pub lit-kept : {c d : Contents} → Extends c d → (l : Lit) → (l.left < length c.terms) × (l.right < length c.terms) → (l.left < length d.terms) × (l.right < length d.terms)
lit-kept e l h = (within-kept e l.left h.0, within-kept e l.right h.1)

-- whether a term is a chosen one
module _ (c : Contents) (b : IsBank c) (t : ℕ) (below : t < length c.terms) where
  pub not-chosen : (u : Tree) → tree_at c t ≡ u → ((p : ℕ) (k : ClauseTree) → choice_for p k u ≡ []) → IsNotChosen (tree_at c t)
  not-chosen u e h = record { no_member = λ p k. rw e (h p k) }

  chosen-term : (a : ℕ) (x y : Option ℕ) → HasView c t (Logic (op.Eps a) x y) → MatchOption (choice_by (op.Eps a) x) (IsNotChosen (tree_at c t)) (IsChosen c (tree_at c t))
  chosen-term a None y v = absurd (let h = (view-typed b t (Logic (op.Eps a) None y) v).typed.0.argument_is in (let f : ⊥ = cc in f))
  chosen-term a (Some p) y v =
      let s = view-typed b t (Logic (op.Eps a) (Some p) y) v in
      let q = s.typed.0 in
      let n : type_number c p ≡ q.number = (let h = q.argument_is in cc) in
      let m = s.first_below in
      let z : argument (tree_at c) y ≡ absent = no-second y s.typed.1.argument_is in
      record {
        property = record { type_within = s.type_below; within = omega arith; typed = rw n q.property };
        reads = reads-logic b t (op.Eps a) (Some p) y v ∙ rw z refl;
      }
    where
      no-second : (y : Option ℕ) → argument_type c y ≡ None → argument (tree_at c) y ≡ absent
      no-second None e = refl
      no-second (Some z) e = (let f : ⊥ = cc in absurd f)

  pub chosen-logic : (o : Op) (x y : Option ℕ) (r : Option Chosen) → HasView c t (Logic o x y) → r ≡ choice_by o x → MatchOption r (IsNotChosen (tree_at c t)) (IsChosen c (tree_at c t))
  chosen-logic (op.Eps a) x y r v e = rw e (chosen-term a x y v)
  chosen-logic op.True x y r v e = rw e (not-chosen _ (reads-logic b t op.True x y v) (λ p k. refl))
  chosen-logic op.False x y r v e = rw e (not-chosen _ (reads-logic b t op.False x y v) (λ p k. refl))
  chosen-logic op.Not x y r v e = rw e (not-chosen _ (reads-logic b t op.Not x y v) (λ p k. refl))
  chosen-logic op.Or x y r v e = rw e (not-chosen _ (reads-logic b t op.Or x y v) (λ p k. refl))
  chosen-logic op.And x y r v e = rw e (not-chosen _ (reads-logic b t op.And x y v) (λ p k. refl))
  chosen-logic op.Imp x y r v e = rw e (not-chosen _ (reads-logic b t op.Imp x y v) (λ p k. refl))
  chosen-logic (op.Eq a) x y r v e = rw e (not-chosen _ (reads-logic b t (op.Eq a) x y v) (λ p k. refl))
  chosen-logic (op.All a) x y r v e = rw e (not-chosen _ (reads-logic b t (op.All a) x y v) (λ p k. refl))
  chosen-logic (op.Some a) x y r v e = rw e (not-chosen _ (reads-logic b t (op.Some a) x y v) (λ p k. refl))

-- the sides of a literal
pub one-side : {c d : Contents} (before at : ℕ) (k : Clause) (l : Lit) (old new : List Due) → is_formula (literal_at c l) ≡ true → Adds c d old new (flat_map (choice_in before (clause_at c k)) (places (tree_at c l.left))) → Adds c d old new (choice_at before (clause_at c k) at (literal_at c l))
one-side before at k l old new formula h = adds-as old new _ _ h (rw formula (sym (append-nil _)))

pub both-sides : {c d e : Contents} (before at : ℕ) (k : Clause) (l : Lit) (old middle new : List Due) → IsClauseOf c k → l.right < length c.terms → is_formula (literal_at c l) ≡ false → Adds c d old middle (flat_map (choice_in before (clause_at c k)) (places (tree_at c l.left))) → Adds d e middle new (flat_map (choice_in before (clause_at d k)) (places (tree_at d l.right))) → Adds c e old new (choice_at before (clause_at c k) at (literal_at c l))
both-sides {c} {d} before at k l old middle new of within formula h g =
    let same : flat_map (choice_in before (clause_at d k)) (places (tree_at d l.right)) ≡ flat_map (choice_in before (clause_at c k)) (places (tree_at c l.right)) = rw (clause-kept h.extends k of, tree-kept h.extends l.right within) refl in
    adds-as old new _ _ (adds-both old middle new _ _ h (adds-as middle new _ _ g same)) (rw (formula, append-nil (flat_map (choice_in before (clause_at c k)) (places (tree_at c l.right)))) refl)
