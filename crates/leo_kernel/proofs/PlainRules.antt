-- Rules that look at no more than the sides of literals.
use Rattle.std.proofs.Common.{ℕ, suc, nat_eq, ◌≡◌, ◌∙◌, ◌<◌, Bool, true, false, not, List, [], ◌∷◌, ◌++◌, length, map, take, drop, Some, refl, sym, ap, arith, ◌⊎◌, inl, inr}
use Rattle.std.specs.Bool.{beq, Decides}
use Rattle.std.proofs.lemmas.List.{map-append}
use Rattle.std.proofs.lemmas.Bool.Decides.{Decides-like, nat_tests}
use Rattle.leo_terms.specs.Tree.{Tree}
use Rattle.leo_terms.specs.Contents.{Contents, IsBank, tree_at}
use Rattle.leo_terms.proofs.CallerLemmas.{term-shared}
use Rattle.leo_clause.specs.declared.clause.Lit.{Lit}
use Rattle.leo_clause.specs.declared.clause.Clause.{Clause}
use Rattle.leo_clause.specs.declared.record.Half.{Half}
use Rattle.leo_clause.specs.declared.record.Half.TheVariants.{One, Two}
use Rattle.leo_clause.specs.Trees.{Literal, ClauseTree, literal_at, clause_at}
use Rattle.leo_clause.specs.Typed.{AreLiteralsOf, IsClauseOf}
use Rattle.leo_kernel.specs.declared.truths.Truths.{Truths}
use Rattle.leo_kernel.specs.Shapes.{truth_tree, equal, unequal, valued}
use Rattle.leo_kernel.specs.Conclusions.{NeverHolds, self_unequal, true_is_false, false_is_true, bool_case, with_new, factored, without}
use Rattle.leo_kernel.specs.Truths.{AreTruths}
use Rattle.leo_kernel.specs.ByNumber.{only, left_value, right_value, IsConclusion}
use Rattle.leo_kernel.proofs.TypedLits.{no}
use Rattle.leo_kernel.proofs.Clauses.{types-same, clause-is, concluded, lits-append, lits-placed, map-placed}

same-number : (n : ℕ) → nat_eq n n ≡ true
same-number n = grind (arith, nat_tests)

equal-numbers : (m n : ℕ) → nat_eq m n ≡ true → m ≡ n
equal-numbers m n h = grind (arith, nat_tests)

-- the comparison of numbers decides whether terms are one
pub terms-decide : (c : Contents) → IsBank c → (m n : ℕ) → m < length c.terms → n < length c.terms → (r : Bool) → r ≡ nat_eq m n → Decides r (tree_at c m ≡ tree_at c n)
terms-decide c b m n k l r e =
    (λ h. ap (tree_at c) (equal-numbers m n (sym e ∙ h)), λ h. let f : m ≡ n = term-shared b m n k l h in e ∙ rw f (same-number n))

-- literals that never hold
never-negative : (l : Literal) → NeverHolds l → l.positive ≡ false → l.left ≡ l.right
never-negative l (self_unequal s) e = refl
never-negative l true_is_false e = cc
never-negative l false_is_true e = cc

never-positive : (l : Literal) → NeverHolds l → l.positive ≡ true → ((l.left ≡ truth_tree true) × (l.right ≡ truth_tree false)) ⊎ ((l.left ≡ truth_tree false) × (l.right ≡ truth_tree true))
never-positive l (self_unequal s) e = (let f : ⊥ = cc in absurd f)
never-positive l true_is_false e = inl (refl, refl)
never-positive l false_is_true e = inr (refl, refl)

never-unequal : (p : Bool) (s t : Tree) → p ≡ false → s ≡ t → NeverHolds (record { positive = p; left = s; right = t })
never-unequal p s t e f = rw (e, f) (self_unequal t)

never-true_false : (p : Bool) (s t : Tree) → p ≡ true → s ≡ truth_tree true → t ≡ truth_tree false → NeverHolds (record { positive = p; left = s; right = t })
never-true_false p s t e f g = rw (e, f, g) true_is_false

never-false_true : (p : Bool) (s t : Tree) → p ≡ true → s ≡ truth_tree false → t ≡ truth_tree true → NeverHolds (record { positive = p; left = s; right = t })
never-false_true p s t e f g = rw (e, f, g) false_is_true

module _ (c : Contents) (b : IsBank c) (t : Truths) (w : AreTruths c t) (l : Lit) (left : l.left < length c.terms) (right : l.right < length c.terms) where
  pub never-of_unequal : l.pos ≡ false → (r : Bool) → r ≡ nat_eq l.left l.right → Decides r (NeverHolds (literal_at c l))
  never-of_unequal e r f = Decides-like r (never-unequal l.pos (tree_at c l.left) (tree_at c l.right) e) (λ h. never-negative (literal_at c l) h e) (terms-decide c b l.left l.right left right r f)

  pub never-of_true : l.pos ≡ true → (q r : Bool) → q ≡ nat_eq l.left t.yes → q ≡ true → r ≡ nat_eq l.right t.no → Decides r (NeverHolds (literal_at c l))
  never-of_true e q r f g h =
      let d = terms-decide c b l.right t.no right w.no_within r h in
      let s : tree_at c l.left ≡ truth_tree true = (terms-decide c b l.left t.yes left w.yes_within q f).0 g ∙ w.yes_reads in (
        λ k. never-true_false l.pos (tree_at c l.left) (tree_at c l.right) e s (d.0 k ∙ w.no_reads),
        λ k. elim (never-positive (literal_at c l) k e) [
          | inl x ↦ d.1 (x.1 ∙ sym w.no_reads)
          | inr x ↦ (let y : truth_tree true ≡ truth_tree false = sym s ∙ x.0 in cc)
        ],
      )

  pub never-of_false : l.pos ≡ true → (q r : Bool) → q ≡ nat_eq l.left t.no → q ≡ true → r ≡ nat_eq l.right t.yes → Decides r (NeverHolds (literal_at c l))
  never-of_false e q r f g h =
      let d = terms-decide c b l.right t.yes right w.yes_within r h in
      let s : tree_at c l.left ≡ truth_tree false = (terms-decide c b l.left t.no left w.no_within q f).0 g ∙ w.no_reads in (
        λ k. never-false_true l.pos (tree_at c l.left) (tree_at c l.right) e s (d.0 k ∙ w.yes_reads),
        λ k. elim (never-positive (literal_at c l) k e) [
          | inl x ↦ (let y : truth_tree false ≡ truth_tree true = sym s ∙ x.0 in cc)
          | inr x ↦ d.1 (x.1 ∙ sym w.yes_reads)
        ],
      )

  pub never-not : l.pos ≡ true → (q r : Bool) → q ≡ nat_eq l.left t.yes → q ≡ false → r ≡ nat_eq l.left t.no → r ≡ false → Decides false (NeverHolds (literal_at c l))
  never-not e q r f g h k =
      no (λ n. elim (never-positive (literal_at c l) n e) [
        | inl x ↦ (let y : q ≡ true = (terms-decide c b l.left t.yes left w.yes_within q f).1 (x.0 ∙ sym w.yes_reads) in cc)
        | inr x ↦ (let y : r ≡ true = (terms-decide c b l.left t.no left w.no_within r h).1 (x.0 ∙ sym w.no_reads) in cc)
      ])

-- two answers of which the first is yes
pub after-yes : {P Q : Type 0} (q r : Bool) → Decides q P → q ≡ true → Decides r Q → Decides r (P × Q)
after-yes q r d e f = (λ h. (d.0 e, f.0 h), λ h. f.1 h.1)

module _ (c : Contents) (b : IsBank c) where
  pub one-literal : (step : Clause) (l : Lit) (L : Literal) → IsClauseOf c step → step.vars ≡ [] → l.left < length c.terms → l.right < length c.terms → literal_at c l ≡ L → (r : Bool) → Decides r (step.lits ≡ l ∷ []) → Decides r (clause_at c step ≡ record { variables = []; literals = L ∷ [] })
  one-literal step l L h e p q f r d =
      rw (← f) (clause-is c b step [] (l ∷ []) h tt (p, q, tt) r ((λ k. (e, d.0 k)), λ k. d.1 k.1))

  only-item : (ls : List Lit) (l : Lit) → only ls ≡ Some l → ls ≡ l ∷ []
  only-item [] l e = cc
  only-item (k ∷ []) l e = (let f : k ≡ l = cc in rw f refl)
  only-item (k ∷ j ∷ ls) l e = cc

  self : (p : Bool) (s t : Tree) → p ≡ true → s ≡ t → record { positive = p; left = s; right = t } ∷ [] ≡ equal t t ∷ []
  self p s t e f = rw (e, f) refl

  sides : (p : Bool) (s t u : Tree) → record { positive = p; left = s; right = t } ∷ [] ≡ equal u u ∷ [] → s ≡ t
  sides p s t u e =
      let f : record { positive = p; left = s; right = t } ≡ equal u u = cc in
      ap (λ (l : Literal). l.left) f ∙ sym (ap (λ (l : Literal). l.right) f)

  pub reflexive : (ls : List Lit) (l : Lit) → AreLiteralsOf c ls → only ls ≡ Some l → l.pos ≡ true → (r : Bool) → r ≡ nat_eq l.left l.right → Decides r ((s : Tree) × (map (literal_at c) ls ≡ equal s s ∷ []))
  reflexive ls l h e p r f =
      let g : ls ≡ l ∷ [] = only-item ls l e in
      let k : AreLiteralsOf c (l ∷ []) = rw g at h in
      let d = terms-decide c b l.left l.right k.0 k.1 r f in
      rw g (
        λ q. (tree_at c l.right, self l.pos (tree_at c l.left) (tree_at c l.right) p (d.0 q)),
        λ q. d.1 (sides l.pos (tree_at c l.left) (tree_at c l.right) q.0 q.1),
      )

  pub dropped : (parent : Clause) (place : ℕ) (l : Literal) (step : Clause) → IsClauseOf c parent → IsClauseOf c step → (q r : Bool) → Decides q (NeverHolds l) → q ≡ true → Decides r (IsConclusion parent place [] [] step) → Decides r (NeverHolds l × (clause_at c step ≡ with_new (clause_at c parent) place [] []))
  dropped parent place l step h k q r d e f = after-yes q r d e (concluded c b parent place [] [] step h k tt tt r f)

  bool_case-values : (half : Half) (p : Bool) (s t : Tree) → bool_case half p s t ≡ valued s (left_value half p) ∷ valued t (right_value half) ∷ []
  bool_case-values One true s t = refl
  bool_case-values Two true s t = refl
  bool_case-values One false s t = refl
  bool_case-values Two false s t = refl

  pub bool_cased : (parent : Clause) (place : ℕ) (half : Half) (p : Bool) (s t : Tree) (x y : Lit) (step : Clause) → IsClauseOf c parent → IsClauseOf c step → x.left < length c.terms → x.right < length c.terms → y.left < length c.terms → y.right < length c.terms →
      literal_at c x ≡ valued s (left_value half p) → literal_at c y ≡ valued t (right_value half) → (r : Bool) → Decides r (IsConclusion parent place [] (x ∷ y ∷ []) step) → Decides r (clause_at c step ≡ with_new (clause_at c parent) place [] (bool_case half p s t))
  bool_cased parent place half p s t x y step h k i j m n e f r d =
      rw (bool_case-values half p s t, ← e, ← f) (concluded c b parent place [] (x ∷ y ∷ []) step h k tt (i, j, (m, n, tt)) r d)

  pub factor-other : (parent : Clause) (place : ℕ) (P : Type 0) (l k : Literal) (step : Clause) → IsClauseOf c parent → IsClauseOf c step → (q : Bool) → Decides q (step.vars ≡ parent.vars) → q ≡ false → Decides false (P × (clause_at c step ≡ factored (clause_at c parent) place l k))
  factor-other parent place P l k step h j q d e =
      no (λ x. let y : step.vars ≡ parent.vars = types-same c b step.vars parent.vars j.types_of h.types_of (ap (λ (z : ClauseTree). z.variables) x.1) in let z : q ≡ true = d.1 y in cc)

  pub factored-is : (parent : Clause) (place : ℕ) (l k x y : Lit) (step : Clause) → IsClauseOf c parent → IsClauseOf c step → x.left < length c.terms → x.right < length c.terms → y.left < length c.terms → y.right < length c.terms →
      literal_at c x ≡ unequal (tree_at c l.left) (tree_at c k.left) → literal_at c y ≡ unequal (tree_at c l.right) (tree_at c k.right) → l.pos ≡ k.pos →
      (q r : Bool) → Decides q (step.vars ≡ parent.vars) → q ≡ true → Decides r (step.lits ≡ (take place parent.lits ++ ([] ++ drop (suc place) parent.lits)) ++ (x ∷ y ∷ [])) →
      Decides r ((l.pos ≡ k.pos) × (clause_at c step ≡ factored (clause_at c parent) place (literal_at c l) (literal_at c k)))
  factored-is parent place l k x y step h j p1 p2 p3 p4 e f g q r d u v =
      let ls : map (literal_at c) ((take place parent.lits ++ ([] ++ drop (suc place) parent.lits)) ++ (x ∷ y ∷ [])) ≡ without (map (literal_at c) parent.lits) place ++ (literal_at c x ∷ literal_at c y ∷ []) =
      map-append (literal_at c) (take place parent.lits ++ ([] ++ drop (suc place) parent.lits)) (x ∷ y ∷ []) ∙ rw (map-placed c place parent.lits []) refl in
      let whole = clause-is c b step parent.vars ((take place parent.lits ++ ([] ++ drop (suc place) parent.lits)) ++ (x ∷ y ∷ [])) j h.types_of
      (lits-append c (take place parent.lits ++ ([] ++ drop (suc place) parent.lits)) (x ∷ y ∷ []) (lits-placed c place parent.lits [] h.literals_of tt) (p1, p2, (p3, p4, tt)))
      r (after-yes q r d u v) in
      let shape : Decides r (clause_at c step ≡ factored (clause_at c parent) place (literal_at c l) (literal_at c k)) = rw (← e, ← f) (rw ls at whole) in
      (λ m. (g, shape.0 m), λ m. shape.1 m.1)

pub polarity-same : (p q : Bool) → not (beq p q) ≡ false → p ≡ q
polarity-same true true e = refl
polarity-same true false e = cc
polarity-same false true e = cc
polarity-same false false e = refl
