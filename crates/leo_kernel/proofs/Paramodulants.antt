-- When a clause is a paramodulant.
use Rattle.std.proofs.Common.{ℕ, ◌≡◌, ◌∙◌, ◌<◌, Bool, true, false, List, [], ◌∷◌, ◌++◌, length, map, slice_get, Some, refl, sym, ap, subst}
use Rattle.std.specs.Prelude.{IsSomeAnd}
use Rattle.std.specs.Bool.{Decides}
use Rattle.std.proofs.lemmas.List.{map-append}
use Rattle.leo_q0.specs.Terms.{SimpleType}
use Rattle.leo_terms.specs.Tree.{Tree}
use Rattle.leo_terms.specs.Contents.{Contents, IsBank, Extends, type_at}
use Rattle.leo_terms.proofs.CallerLemmas.{tree-kept}
use Rattle.leo_clause.specs.declared.clause.Lit.{Lit}
use Rattle.leo_clause.specs.declared.clause.Clause.{Clause}
use Rattle.leo_clause.specs.declared.record.Side.{Side}
use Rattle.leo_clause.specs.declared.record.Side.TheVariants.{Left, Right}
use Rattle.leo_clause.specs.Trees.{Literal, ClauseTree, literal_at, clause_at}
use Rattle.leo_clause.specs.Typed.{IsClauseOf, IsTyped}
use Rattle.leo_kernel.specs.Shapes.{side_of, other_side_of, unequal}
use Rattle.leo_kernel.specs.Conditions.{LeadsTo}
use Rattle.leo_kernel.specs.Conclusions.{with_literals, without, paramodulant}
use Rattle.leo_kernel.specs.Leaves.{AreDeclared}
use Rattle.leo_kernel.specs.Places.{subterm, replaced_in, shifted, shifted_literal}
use Rattle.leo_kernel.proofs.TypedLits.{no, not-both}
use Rattle.leo_kernel.proofs.Clauses.{types-append, types-same}
use Rattle.leo_kernel.proofs.Lists.{length-map}
use Rattle.leo_kernel.proofs.Growing.{lits-kept}
use Rattle.leo_kernel.proofs.MovedTerms.{subterm-shifted, get-mapped, paramodulant-declared}
use Rattle.leo_kernel.proofs.Paramodulating.{leads-to}

pub side-shifted : (n : ℕ) (side : Side) (k : Literal) → side_of side (shifted_literal n k) ≡ shifted n (side_of side k)
side-shifted n Left k = refl
side-shifted n Right k = refl

pub lit-kept : {c d : Contents} → Extends c d → (l : Lit) → l.left < length c.terms → l.right < length c.terms → literal_at d l ≡ literal_at c l
lit-kept e l p q = rw (tree-kept e l.left p, tree-kept e l.right q) refl

-- what stands at the path in a moved literal
shifted-there : (n : ℕ) (side : Side) (path : List ℕ) (k : Literal) (t : Tree) → subterm path (side_of side k) ≡ Some t → subterm path (side_of side (shifted_literal n k)) ≡ Some (shifted n t)
shifted-there n side path k t e = rw (side-shifted n side k) (subterm-shifted n path (side_of side k) t e)

clause-is : (k : ClauseTree) (vs : List SimpleType) (ls : List Literal) → k.variables ≡ vs → k.literals ≡ ls → k ≡ record { variables = vs; literals = ls }
clause-is k vs ls e f = rw (← e, ← f) refl

module _ (c : Contents) (b : IsBank c) (source target step : Clause) (hs : IsClauseOf c source) (ht : IsClauseOf c target) (hk : IsClauseOf c step) (i j : ℕ) (l k : Lit) (s side : Side) (path : List ℕ) (leads : LeadsTo path (side_of side (literal_at c k))) where
  found : (t : Tree) × (subterm path (side_of side (literal_at c k)) ≡ Some t)
  found = leads-to path (side_of side (literal_at c k)) leads

  none-of : ((t : Tree) → subterm path (side_of side (literal_at c k)) ≡ Some t → (l.pos ≡ true) × (clause_at c step ≡ paramodulant (clause_at c source) i (literal_at c l) s (clause_at c target) j (literal_at c k) side path t) → ⊥) →
      Decides false (IsSomeAnd (subterm path (side_of side (literal_at c k))) (λ t. (l.pos ≡ true) × (clause_at c step ≡ paramodulant (clause_at c source) i (literal_at c l) s (clause_at c target) j (literal_at c k) side path t)))
  none-of f = rw (found.1) (no (f found.0 found.1))

  pub negative-source : l.pos ≡ false →
      Decides false (IsSomeAnd (subterm path (side_of side (literal_at c k))) (λ t. (l.pos ≡ true) × (clause_at c step ≡ paramodulant (clause_at c source) i (literal_at c l) s (clause_at c target) j (literal_at c k) side path t)))
  negative-source e = none-of (λ t g h. (let x = h.0 in cc))

  pub other-variables : (q : Bool) → Decides q (step.vars ≡ source.vars ++ target.vars) → q ≡ false →
      Decides false (IsSomeAnd (subterm path (side_of side (literal_at c k))) (λ t. (l.pos ≡ true) × (clause_at c step ≡ paramodulant (clause_at c source) i (literal_at c l) s (clause_at c target) j (literal_at c k) side path t)))
  other-variables q d f =
      none-of (λ t g h.
      let e : map (type_at c) step.vars ≡ map (type_at c) (source.vars ++ target.vars) = ap (λ (x : ClauseTree). x.variables) h.1 ∙ sym (map-append (type_at c) source.vars target.vars) in
      not-both q d f (types-same c b step.vars (source.vars ++ target.vars) hk.types_of (types-append c source.vars target.vars hs.types_of ht.types_of) e))

  pub undeclared-target : slice_get (map (literal_at c) target.lits) j ≡ Some (literal_at c k) → IsTyped (clause_at c step) → (q : Bool) → Decides q (AreDeclared (map (type_at c) target.vars) (map (literal_at c) target.lits)) → q ≡ false →
      Decides false (IsSomeAnd (subterm path (side_of side (literal_at c k))) (λ t. (l.pos ≡ true) × (clause_at c step ≡ paramodulant (clause_at c source) i (literal_at c l) s (clause_at c target) j (literal_at c k) side path t)))
  undeclared-target at typed q d f =
      none-of (λ t g h.
      let w : IsTyped (paramodulant (clause_at c source) i (literal_at c l) s (clause_at c target) j (literal_at c k) side path t) = subst IsTyped h.1 typed in
      not-both q d f (paramodulant-declared (map (type_at c) source.vars) (map (type_at c) target.vars) (without (map (literal_at c) source.lits) i) (map (literal_at c) target.lits) j (literal_at c k) at path (other_side_of s (literal_at c l)) (side_of s (literal_at c l)) t side g w))

paramodulant-is : (source target : ClauseTree) (i j : ℕ) (l k : Literal) (s side : Side) (path : List ℕ) (t : Tree) (n : ℕ) → n ≡ length source.variables →
    paramodulant source i l s target j k side path t ≡
    record { variables = source.variables ++ target.variables; literals = without source.literals i ++ (with_literals (map (shifted_literal n) target.literals) j (replaced_in side path (other_side_of s l) (shifted_literal n k) ∷ []) ++ unequal (side_of s l) (shifted n t) ∷ []) }
paramodulant-is source target i j l k s side path t n e = rw e refl

module _ {c d : Contents} (e : Extends c d) (source target step : Clause) (hs : IsClauseOf c source) (ht : IsClauseOf c target) (hk : IsClauseOf c step) (i j : ℕ) (l k : Lit) (left : l.left < length c.terms) (right : l.right < length c.terms) (s side : Side) (path : List ℕ)
    (leads : LeadsTo path (side_of side (literal_at c k))) (at : slice_get (map (literal_at c) target.lits) j ≡ Some (literal_at c k))
    (moved : List Lit) (first : ℕ) (number : first ≡ length source.vars) (reads : map (literal_at d) moved ≡ map (shifted_literal first) (map (literal_at c) target.lits)) where
  moved-at : slice_get (map (literal_at d) moved) j ≡ Some (shifted_literal first (literal_at c k))
  moved-at = rw reads (get-mapped (shifted_literal first) (map (literal_at c) target.lits) j (literal_at c k) at)

  pub moved-leads : IsSomeAnd (slice_get (map (literal_at d) moved) j) (λ x. LeadsTo path (side_of side x))
  moved-leads =
      let f = leads-to path (side_of side (literal_at c k)) leads in
      rw (moved-at, shifted-there first side path (literal_at c k) f.0 f.1) tt

  count : first ≡ length (map (type_at c) source.vars)
  count = number ∙ sym (length-map (type_at c) source.vars)

  abbrev literals-of : (t : Tree) → List Literal
  literals-of t =
      without (map (literal_at c) source.lits) i ++ (with_literals (map (shifted_literal first) (map (literal_at c) target.lits)) j (replaced_in side path (other_side_of s (literal_at c l)) (shifted_literal first (literal_at c k)) ∷ []) ++ unequal (side_of s (literal_at c l)) (shifted first t) ∷ [])

  pub paramodulant-decides : l.pos ≡ true → step.vars ≡ source.vars ++ target.vars → (r : Bool) →
      Decides r (IsSomeAnd (slice_get (map (literal_at d) moved) j) (λ x. IsSomeAnd (subterm path (side_of side x)) (λ t. map (literal_at d) step.lits ≡ without (map (literal_at d) source.lits) i ++ (with_literals (map (literal_at d) moved) j (replaced_in side path (other_side_of s (literal_at d l)) x ∷ []) ++ unequal (side_of s (literal_at d l)) t ∷ [])))) →
      Decides r (IsSomeAnd (subterm path (side_of side (literal_at c k))) (λ t. (l.pos ≡ true) × (clause_at c step ≡ paramodulant (clause_at c source) i (literal_at c l) s (clause_at c target) j (literal_at c k) side path t)))
  paramodulant-decides positive vars r h =
      let f = leads-to path (side_of side (literal_at c k)) leads in
      let there = shifted-there first side path (literal_at c k) f.0 f.1 in
      let g : Decides r (map (literal_at c) step.lits ≡ literals-of f.0) =
      rw (moved-at, there, reads, lits-kept e step.lits hk.literals_of, lits-kept e source.lits hs.literals_of, lit-kept e l left right) at h in
      let whole = paramodulant-is (clause_at c source) (clause_at c target) i j (literal_at c l) (literal_at c k) s side path f.0 first count in
      let types : map (type_at c) step.vars ≡ map (type_at c) source.vars ++ map (type_at c) target.vars = rw vars (map-append (type_at c) source.vars target.vars) in
      rw (f.1) (
        λ y. (positive, clause-is (clause_at c step) _ _ types (g.0 y) ∙ sym (whole)),
        λ y. g.1 (ap (λ (x : ClauseTree). x.literals) (y.1 ∙ whole)),
      )
