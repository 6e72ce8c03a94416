-- Types of terms and of variables, compared by number.
use Rattle.std.proofs.Common.{ℕ, nat_eq, ◌≡◌, ◌∙◌, ◌<◌, Bool, true, false, not, List, [], ◌∷◌, length, map, slice_get, slice_index_or, Some, refl, sym, ap, arith}
use Rattle.std.specs.Bool.{Decides}
use Rattle.std.proofs.lemmas.Bool.Decides.{nat_tests}
use Rattle.leo_q0.specs.Terms.{SimpleType, base, arrow}
use Rattle.leo_terms.specs.declared.node.TyView.TheVariants.{Base, Arrow}
use Rattle.leo_terms.specs.Tree.{truth_type, type_of}
use Rattle.leo_terms.specs.Contents.{Contents, IsBank, type_at, tree_at, type_number}
use Rattle.leo_terms.proofs.CallerLemmas.{sound, type-shared, type_of-term, type_number-within, reads-base, reads-arrow, arrow-parts}
use Rattle.leo_clause.specs.Typed.{AreTypesOf, IsTyped}
use Rattle.leo_kernel.specs.Shapes.{IsArrowType}
use Rattle.leo_kernel.specs.Conditions.{AreChoiceVariables, RuleHasTypes, HasTypes}
use Rattle.leo_kernel.specs.Steps.{Line}
use Rattle.leo_kernel.proofs.TypedLits.{no, yes}
use Rattle.leo_kernel.proofs.Numbers.{types-at}

same-number : (n : ℕ) → nat_eq n n ≡ true
same-number n = grind (arith, nat_tests)

equal-numbers : (m n : ℕ) → nat_eq m n ≡ true → m ≡ n
equal-numbers m n h = grind (arith, nat_tests)

apart : (m n : ℕ) (r : Bool) → r ≡ not (nat_eq m n) → r ≡ true → m ≡ n → ⊥
apart m n r e t f = grind (arith, nat_tests)

together : (m n : ℕ) (r : Bool) → r ≡ not (nat_eq m n) → r ≡ false → m ≡ n
together m n r e t = grind (arith, nat_tests)

module _ (c : Contents) (b : IsBank c) where
  pub types-decide : (i j : ℕ) → i < length c.types → j < length c.types → (r : Bool) → r ≡ nat_eq i j → Decides r (type_at c i ≡ type_at c j)
  types-decide i j k l r e = (λ h. ap (type_at c) (equal-numbers i j (sym e ∙ h)), λ h. let f : i ≡ j = type-shared b i j k l h in e ∙ rw f (same-number j))

  pub truth-reads : type_at c 0 ≡ truth_type
  truth-reads = reads-base b 0 0 (sound c b).truth_first

  pub truth-within : 0 < length c.types
  truth-within = let m = b.base_types in omega arith

  pub same_type-decides : (s t m n : ℕ) → s < length c.terms → t < length c.terms → m ≡ type_number c s → n ≡ type_number c t → (r : Bool) → r ≡ nat_eq m n → Decides r (type_of (tree_at c s) ≡ type_of (tree_at c t))
  same_type-decides s t m n k l e f r g =
      let first : type_of (tree_at c s) ≡ type_at c m = type_of-term b s k ∙ ap (type_at c) (sym e) in
      let second : type_of (tree_at c t) ≡ type_at c n = type_of-term b t l ∙ ap (type_at c) (sym f) in
      let d = types-decide m n (rw e (type_number-within b s k)) (rw f (type_number-within b t l)) r g in
      (λ h. first ∙ d.0 h ∙ sym second, λ h. d.1 (sym first ∙ h ∙ second))

  pub truth-decides : (t m n : ℕ) → t < length c.terms → m ≡ type_number c t → n ≡ 0 → (r : Bool) → r ≡ nat_eq m n → Decides r (type_of (tree_at c t) ≡ truth_type)
  truth-decides t m n k e z r g =
      let first : type_of (tree_at c t) ≡ type_at c m = type_of-term b t k ∙ ap (type_at c) (sym e) in
      let second : type_at c n ≡ truth_type = ap (type_at c) z ∙ truth-reads in
      let d = types-decide m n (rw e (type_number-within b t k)) (rw z truth-within) r g in
      (λ h. first ∙ d.0 h ∙ second, λ h. d.1 (sym first ∙ h ∙ sym second))

  arrow-type : (t m x y : ℕ) → t < length c.terms → m ≡ type_number c t → slice_get c.types m ≡ Some (Arrow x y) → type_of (tree_at c t) ≡ arrow (type_at c x) (type_at c y)
  arrow-type t m x y k e f = type_of-term b t k ∙ ap (type_at c) (sym e) ∙ reads-arrow b (record { arrow_node = f })

  pub is-function : (t m x y : ℕ) → t < length c.terms → m ≡ type_number c t → slice_get c.types m ≡ Some (Arrow x y) → Decides true (IsArrowType (type_of (tree_at c t)))
  is-function t m x y k e f = yes (rw (arrow-type t m x y k e f) tt)

  pub is-no_function : (t m x : ℕ) → t < length c.terms → m ≡ type_number c t → slice_get c.types m ≡ Some (Base x) → Decides false (IsArrowType (type_of (tree_at c t)))
  is-no_function t m x k e f =
      let g : type_of (tree_at c t) ≡ base x = type_of-term b t k ∙ ap (type_at c) (sym e) ∙ reads-base b m x f in
      no (λ h. (let k : IsArrowType (base x) = rw g at h in k))

two-items : (xs : List ℕ) (x y : ℕ) → length xs ≡ 2 → x ≡ slice_index_or xs 0 x → y ≡ slice_index_or xs 1 y → xs ≡ x ∷ y ∷ []
two-items [] x y l e f = absurd (omega arith)
two-items (a ∷ []) x y l e f = absurd (omega arith)
two-items (a ∷ d ∷ []) x y l e f = rw (e, f) refl
two-items (a ∷ d ∷ k ∷ xs) x y l e f = absurd (omega arith)

pub map-length : (c : Contents) (xs : List ℕ) (a b : SimpleType) → map (type_at c) xs ≡ a ∷ b ∷ [] → length xs ≡ 2
map-length c [] a b e = (let f : ⊥ = cc in absurd f)
map-length c (x ∷ []) a b e = (let f : ⊥ = cc in absurd f)
map-length c (x ∷ y ∷ []) a b e = refl
map-length c (x ∷ y ∷ z ∷ xs) a b e = (let f : ⊥ = cc in absurd f)

pub heads : (p q r s : SimpleType) → p ∷ q ∷ [] ≡ r ∷ s ∷ [] → (p ≡ r) × (q ≡ s)
heads p q r s e = (cc, cc)

pub arrows : (p q r s : SimpleType) → arrow p q ≡ arrow r s → (p ≡ r) × (q ≡ s)
arrows p q r s e = (cc, cc)

pub choice-length : (c : Contents) (vars : List ℕ) → (length vars ≡ 2 → ⊥) → Decides false (AreChoiceVariables (map (type_at c) vars))
choice-length c vars f = no (λ h. f (map-length c vars (arrow h.0 truth_type) h.0 h.1))

module _ (c : Contents) (b : IsBank c) (vars : List ℕ) (types : AreTypesOf c vars) (x y : ℕ) (l : length vars ≡ 2) (first : x ≡ slice_index_or vars 0 x) (second : y ≡ slice_index_or vars 1 y) where
  listed : vars ≡ x ∷ y ∷ []
  listed = two-items vars x y l first second

  y-within : y < length c.types
  y-within = types-at c vars types 1 y (omega arith) second

  pub parts : (h : AreChoiceVariables (map (type_at c) vars)) → (type_at c x ≡ arrow h.0 truth_type) × (type_at c y ≡ h.0)
  parts h = heads (type_at c x) (type_at c y) (arrow h.0 truth_type) h.0 (rw listed at h.1)

  pub choice-base : (n : ℕ) → slice_get c.types x ≡ Some (Base n) → Decides false (AreChoiceVariables (map (type_at c) vars))
  choice-base n e = no (λ h. base-arrow n h.0 truth_type (sym (reads-base b x n e) ∙ (parts h).0))
    where
      base-arrow : (n : ℕ) (p q : SimpleType) → base n ≡ arrow p q → ⊥
      base-arrow n p q e = cc

  module _ (from to : ℕ) (node : slice_get c.types x ≡ Some (Arrow from to)) where
    reads : type_at c x ≡ arrow (type_at c from) (type_at c to)
    reads = reads-arrow b (record { arrow_node = node })

    from-within : from < length c.types
    from-within = let p = arrow-parts b (record { arrow_node = node }) in let k = p.0 in let m = p.1 in omega arith

    to-within : to < length c.types
    to-within = let p = arrow-parts b (record { arrow_node = node }) in let k = p.0 in let m = p.2 in omega arith

    domains : (h : AreChoiceVariables (map (type_at c) vars)) → (type_at c from ≡ h.0) × (type_at c to ≡ truth_type)
    domains h = arrows (type_at c from) (type_at c to) h.0 truth_type (sym reads ∙ (parts h).0)

    pub choice-apart : (r : Bool) → r ≡ not (nat_eq from y) → r ≡ true → Decides false (AreChoiceVariables (map (type_at c) vars))
    choice-apart r e t = no (λ h. apart from y r e t (type-shared b from y from-within y-within ((domains h).0 ∙ sym (parts h).1)))

    pub choice-decides : (q r : Bool) (n : ℕ) → q ≡ not (nat_eq from y) → q ≡ false → n ≡ 0 → r ≡ nat_eq to n → Decides r (AreChoiceVariables (map (type_at c) vars))
    choice-decides q r n e f z g =
        let same : from ≡ y = together from y q e f in
        let value : type_at c n ≡ truth_type = ap (type_at c) z ∙ truth-reads c b in
        let d = types-decide c b to n to-within (rw z (truth-within c b)) r g in
        let shape : type_at c to ≡ truth_type → map (type_at c) vars ≡ arrow (type_at c y) truth_type ∷ type_at c y ∷ [] = λ h. rw listed (listed-types (type_at c x) (type_at c y) (reads ∙ rw (same, h) refl)) in
        (λ h. (type_at c y, shape (d.0 h ∙ value)), λ h. d.1 ((domains h).1 ∙ sym value))
      where
        listed-types : (p q : SimpleType) → p ≡ arrow q truth_type → p ∷ q ∷ [] ≡ arrow q truth_type ∷ q ∷ []
        listed-types p q e = rw e refl

-- the clause is typed, and then what the rule names
pub has-types : (lines : List Line) (step : Line) (q r : Bool) → Decides q (IsTyped step.clause) → q ≡ true → Decides r (RuleHasTypes lines step.clause.variables step.rule) → Decides r (HasTypes lines step)
has-types lines step q r d e f = (λ h. record { clause_typed = d.0 e; rule_typed = f.0 h }, λ h. f.1 h.rule_typed)
