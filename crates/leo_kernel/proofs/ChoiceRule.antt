-- The clause of the axiom of choice.
use Rattle.std.proofs.Common.{ℕ, zero, suc, ◌≡◌, ◌∙◌, ◌<◌, Bool, true, false, List, [], ◌∷◌, length, map, slice_get, slice_index_or, Some, refl, sym, ap, arith}
use Rattle.std.specs.Bool.{Decides}
use Rattle.leo_q0.specs.Terms.{SimpleType, base, arrow}
use Rattle.leo_terms.specs.declared.node.TyView.{TyView}
use Rattle.leo_terms.specs.declared.node.TyView.TheVariants.{Base, Arrow}
use Rattle.leo_terms.specs.Tree.{Tree, variable, app, truth_type}
use Rattle.leo_terms.specs.Contents.{Contents, IsBank, Extends, IsApplicable, IsArrow, IsProperty, IsTerm, tree_at, type_at, type_number}
use Rattle.leo_terms.proofs.CallerLemmas.{type-shared, reads-base, reads-arrow, arrow-parts, applicable, arrow-kept, extends-trans, new_bank, term-kept, type-kept}
use Rattle.leo_clause.specs.declared.clause.Lit.{Lit}
use Rattle.leo_clause.specs.declared.clause.Clause.{Clause}
use Rattle.leo_clause.specs.Trees.{Literal, ClauseTree, literal_at, clause_at}
use Rattle.leo_clause.specs.Typed.{AreTypesOf, AreLiteralsOf, IsClauseOf}
use Rattle.leo_kernel.specs.Shapes.{valued, choice_tree}
use Rattle.leo_kernel.specs.Conditions.{AreChoiceVariables}
use Rattle.leo_kernel.specs.Conclusions.{choice_clause}
use Rattle.leo_kernel.proofs.Clauses.{lits-same}
use Rattle.leo_kernel.proofs.Growing.{clause-grow, clause-kept, types-kept}
use Rattle.leo_kernel.proofs.Numbers.{types-at}
use Rattle.leo_kernel.proofs.TypeRules.{map-length, parts, arrows, heads, truth-reads, truth-within}

some-at : {X : Type 0} (xs : List X) (i : ℕ) → i < length xs → (x : X) × (slice_get xs i ≡ Some x)
some-at [] i l = absurd (omega arith)
some-at (x ∷ xs) zero l = (x, refl)
some-at (x ∷ xs) (suc i) l = some-at xs i (omega arith)

pub two-variables : (c : Contents) (vars : List ℕ) → AreChoiceVariables (map (type_at c) vars) → length vars ≡ 2
two-variables c vars h = map-length c vars (arrow h.0 truth_type) h.0 h.1

module _ (c : Contents) (b : IsBank c) (vars : List ℕ) (types : AreTypesOf c vars) (h : AreChoiceVariables (map (type_at c) vars)) (x y : ℕ) (first : x ≡ slice_index_or vars 0 x) (second : y ≡ slice_index_or vars 1 y) where
  pub property-within : x < length c.types
  property-within = let l = two-variables c vars h in types-at c vars types 0 x (omega arith) first

  pub thing-within : y < length c.types
  thing-within = let l = two-variables c vars h in types-at c vars types 1 y (omega arith) second

  pub property-reads : type_at c x ≡ arrow h.0 truth_type
  property-reads = (parts c b vars types x y (two-variables c vars h) first second h).0

  pub thing-reads : type_at c y ≡ h.0
  thing-reads = (parts c b vars types x y (two-variables c vars h) first second h).1

  pub property-arrow : IsArrow c x y 0
  property-arrow = let n = some-at c.types x property-within in by-node n.0 n.1
    where
      base-arrow : (n : ℕ) (p q : SimpleType) → base n ≡ arrow p q → ⊥
      base-arrow n p q e = cc

      same-arrow : (f t : ℕ) → slice_get c.types x ≡ Some (Arrow f t) → f ≡ y → t ≡ 0 → IsArrow c x y 0
      same-arrow f t e g k = record { arrow_node = rw (← g, ← k) e }

      by-node : (v : TyView) → slice_get c.types x ≡ Some v → IsArrow c x y 0
      by-node (Base n) e = absurd (base-arrow n h.0 truth_type (sym (reads-base b x n e) ∙ property-reads))
      by-node (Arrow f t) e =
          let node : IsArrow c x f t = record { arrow_node = e } in
          let p = arrows (type_at c f) (type_at c t) h.0 truth_type (sym (reads-arrow b node) ∙ property-reads) in
          let q = arrow-parts b node in
          let k = q.0 in
          let m = q.1 in
          let n = q.2 in
          same-arrow f t e
          (type-shared b f y (omega arith) thing-within (p.0 ∙ sym thing-reads))
          (type-shared b t 0 (omega arith) (truth-within c b) (p.1 ∙ sym (truth-reads c b)))

-- the terms that are made one after the other
module _ {a b c d e f : Contents} (g1 : Extends a b) (g2 : Extends b c) (g3 : Extends c d) (g4 : Extends d e) (g5 : Extends e f) (i j : ℕ) (within : j < length a.types) (arrow_is : IsArrow a i j 0) (p x : ℕ)
    (mp : IsTerm b p i (variable 0 (type_at a i))) (mx : IsTerm c x j (variable 1 (type_at b j))) where
  pub property-applies : IsApplicable c p x
  property-applies = (applicable (term-kept g2 mp) mx (arrow-kept (extends-trans g1 g2) arrow_is)).0

  pub property-is : IsProperty d (Some (type_number d p)) j
  property-is =
      let m = term-kept (extends-trans g2 g3) mp in
      record { number = type_number d p; argument_is = refl; property = rw (m.type_is) (arrow-kept (extends-trans g1 (extends-trans g2 g3)) arrow_is) }

  pub chosen-applies : (k : ℕ) (s : Tree) → IsTerm e k j s → IsApplicable e p k
  chosen-applies k s mk = (applicable (term-kept (extends-trans g2 (extends-trans g3 g4)) mp) mk (arrow-kept (extends-trans g1 (extends-trans g2 (extends-trans g3 g4))) arrow_is)).0

  pub first-reads : (w n : ℕ) → IsTerm d w n (app (tree_at c p) (tree_at c x)) → tree_at f w ≡ app (variable 0 (type_at a i)) (variable 1 (type_at a j))
  first-reads w n m = (term-kept (extends-trans g4 g5) m).reads ∙ rw ((term-kept g2 mp).reads, mx.reads, type-kept g1 j within) refl

  pub second-reads : (k v n : ℕ) → IsTerm e k j (choice_tree (type_at d j) (tree_at d p)) → IsTerm f v n (app (tree_at e p) (tree_at e k)) → tree_at f v ≡ app (variable 0 (type_at a i)) (choice_tree (type_at a j) (variable 0 (type_at a i)))
  second-reads k v n mk mv =
      mv.reads ∙ rw ((term-kept (extends-trans g2 (extends-trans g3 g4)) mp).reads, mk.reads, (term-kept (extends-trans g2 g3) mp).reads, type-kept (extends-trans g1 (extends-trans g2 g3)) j within) refl

-- the clause has the two literals
module _ (c : Contents) (b : IsBank c) (step : Clause) (w : IsClauseOf c step) (h : AreChoiceVariables (map (type_at c) step.vars)) (l k : Lit) (literals : AreLiteralsOf c (l ∷ k ∷ []))
    (first : literal_at c l ≡ valued (app (variable 0 (arrow h.0 truth_type)) (variable 1 h.0)) false)
    (second : literal_at c k ≡ valued (app (variable 0 (arrow h.0 truth_type)) (choice_tree h.0 (variable 0 (arrow h.0 truth_type)))) true) where
  clause-of : (ls : List Lit) → ls ≡ l ∷ k ∷ [] → record { variables = map (type_at c) step.vars; literals = map (literal_at c) ls } ≡ choice_clause h.0
  clause-of ls e = rw (e, h.1, first, second) refl

  things-same : (a : SimpleType) → arrow h.0 truth_type ∷ h.0 ∷ [] ≡ arrow a truth_type ∷ a ∷ [] → a ≡ h.0
  things-same a e = sym (heads (arrow h.0 truth_type) h.0 (arrow a truth_type) a e).1

  literals-of : (a : SimpleType) → clause_at c step ≡ choice_clause a → map (literal_at c) step.lits ≡ map (literal_at c) (l ∷ k ∷ [])
  literals-of a e =
      let s : a ≡ h.0 = things-same a (sym h.1 ∙ ap (λ (x : ClauseTree). x.variables) e) in
      let f : clause_at c step ≡ choice_clause h.0 = rw s at e in
      ap (λ (x : ClauseTree). x.literals) f ∙ sym (two (literal_at c l) (literal_at c k) _ _ first second)
    where
      two : (p q r s : Literal) → p ≡ r → q ≡ s → p ∷ q ∷ [] ≡ r ∷ s ∷ []
      two p q r s e f = rw (e, f) refl

  pub choice-decides : (r : Bool) → Decides r (step.lits ≡ l ∷ k ∷ []) → Decides r ((a : SimpleType) × (clause_at c step ≡ choice_clause a))
  choice-decides r d = (
    λ e. (h.0, clause-of step.lits (d.0 e)),
    λ e. d.1 (lits-same c b step.lits (l ∷ k ∷ []) w.literals_of literals (literals-of e.0 e.1)),
  )

-- the same in a bank that grew
module _ {c d : Contents} (e : Extends c d) (step : Clause) (w : IsClauseOf c step) (h : AreChoiceVariables (map (type_at c) step.vars)) (l k : Lit) (literals : AreLiteralsOf d (l ∷ k ∷ [])) (s t : Tree) (a b : SimpleType) (property : a ≡ arrow h.0 truth_type) (thing : b ≡ h.0)
    (first : literal_at d l ≡ valued s false) (second : literal_at d k ≡ valued t true) (left : s ≡ app (variable 0 a) (variable 1 b)) (right : t ≡ app (variable 0 a) (choice_tree b (variable 0 a))) where
  pub choice-later : (r : Bool) → Decides r (step.lits ≡ l ∷ k ∷ []) → Decides r ((x : SimpleType) × (clause_at c step ≡ choice_clause x))
  choice-later r d0 =
      let types : map (type_at d) step.vars ≡ map (type_at c) step.vars = types-kept e step.vars w.types_of in
      let vars : AreChoiceVariables (map (type_at d) step.vars) = (h.0, types ∙ h.1) in
      let one : literal_at d l ≡ valued (app (variable 0 (arrow h.0 truth_type)) (variable 1 h.0)) false = first ∙ rw (left, property, thing) refl in
      let two : literal_at d k ≡ valued (app (variable 0 (arrow h.0 truth_type)) (choice_tree h.0 (variable 0 (arrow h.0 truth_type)))) true = second ∙ rw (right, property, thing) refl in
      let here = choice-decides d (new_bank e) step (clause-grow e step w) vars l k literals one two r d0 in
      rw (← clause-kept e step w) here
