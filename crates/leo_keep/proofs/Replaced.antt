-- What may replace a variable, and whether it is bound.
use Rattle.std.proofs.Common.{ℕ, nat_eq, ◌≡◌, ◌∙◌, ◌+◌, ◌<◌, ◌≤◌, Bool, true, false, not, List, [], ◌∷◌, ◌++◌, length, take, slice_get, slice_index_or, Some, sym, ap, arith}
use Rattle.std.specs.Bool.{Decides}
use Rattle.std.proofs.lemmas.List.{take_more, take_all}
use Rattle.std.proofs.lemmas.Bool.Decides.{nat_tests}
use Rattle.leo_q0.specs.Terms.{base, arrow}
use Rattle.leo_terms.specs.declared.node.TyView.TheVariants.{Base, Arrow}
use Rattle.leo_terms.specs.Tree.{variable, type_of}
use Rattle.leo_terms.specs.Facts.{loose_range}
use Rattle.leo_terms.specs.Contents.{Contents, IsBank, type_at, tree_at, type_number}
use Rattle.leo_terms.proofs.CallerLemmas.{type-shared, type_of-term, term-typed, term-present, type_number-within, reads-base, reads-arrow}
use Rattle.leo_keep.specs.declared.matching.Binding.{Binding}
use Rattle.leo_keep.specs.Subsumption.{MayReplace}
use Rattle.leo_keep.specs.Matching.{IsUnbound, IsVariable}
use Rattle.leo_keep.proofs.Bindings.{unbound-last}
use Rattle.leo_keep.proofs.Replacements.{replaces-type}

-- the bindings up to a place
pub unbound-next : (n : ℕ) (bs : List Binding) (i : ℕ) (b : Binding) → IsUnbound n (take i bs) → i < length bs → b ≡ slice_index_or bs i b → (b.variable ≡ n → ⊥) → IsUnbound n (take (i + 1) bs)
unbound-next n bs i b h l e f =
    let t : take (i + 1) bs ≡ take i bs ++ b ∷ [] = take_more bs i b l ∙ ap (λ z. take i bs ++ z ∷ []) (sym e) in
    rw t (unbound-last n (take i bs) b h f)

pub unbound-whole : (n : ℕ) (bs : List Binding) (i : ℕ) → IsUnbound n (take i bs) → length bs ≤ i → IsUnbound n bs
unbound-whole n bs i h l = rw (take_all i bs l) at h

-- a term of a bank for a variable of a type
module _ (c : Contents) (b : IsBank c) (t i : ℕ) (l : t < length c.terms) (k : i < length c.types) where
  number-of : MayReplace (type_at c i) (tree_at c t) → type_number c t ≡ i
  number-of h = type-shared b (type_number c t) i (type_number-within b t l) k (sym (type_of-term b t l) ∙ replaces-type (type_at c i) (tree_at c t) h)

  pub other-type : (n : ℕ) (r : Bool) → n ≡ type_number c t → r ≡ not (nat_eq n i) → r ≡ true → MayReplace (type_at c i) (tree_at c t) → ⊥
  other-type n r e f g h = unlike n i (sym f ∙ g) (e ∙ number-of h)
    where
      unlike : (m n : ℕ) → not (nat_eq m n) ≡ true → m ≡ n → ⊥
      unlike m n e g = grind (arith, nat_tests)

  of-type : (n : ℕ) (r : Bool) → n ≡ type_number c t → r ≡ not (nat_eq n i) → r ≡ false → type_of (tree_at c t) ≡ type_at c i
  of-type n r e f g = type_of-term b t l ∙ ap (type_at c) (sym e ∙ like n i (sym f ∙ g))
    where
      like : (m n : ℕ) → not (nat_eq m n) ≡ false → m ≡ n
      like m n e = grind (arith, nat_tests)

  pub base-decides : (m n : ℕ) (x : Bool) → m ≡ type_number c t → x ≡ not (nat_eq m i) → x ≡ false → slice_get c.types i ≡ Some (Base n) → (r : Bool) → Decides r (loose_range (tree_at c t) ≡ 0) → Decides r (MayReplace (type_at c i) (tree_at c t))
  base-decides m n x e f g h r d =
      let a : type_at c i ≡ base n = reads-base b i n h in
      let y = of-type m x e f g in
      rw a (
        λ z. record { well_typed = term-typed b t l; present = term-present b t l; of_type = y ∙ a; no_loose = d.0 z },
        λ z. d.1 z.no_loose,
      )

  pub arrow-decides : (m p q : ℕ) (x : Bool) → m ≡ type_number c t → x ≡ not (nat_eq m i) → x ≡ false → slice_get c.types i ≡ Some (Arrow p q) → (r : Bool) → Decides r (IsVariable (tree_at c t)) → Decides r (MayReplace (type_at c i) (tree_at c t))
  arrow-decides m p q x e f g h r d =
      let a : type_at c i ≡ arrow (type_at c p) (type_at c q) = reads-arrow b (record { arrow_node = h }) in
      let y = of-type m x e f g in
      rw a (
        λ z. (let v = d.0 z in (v.number, v.is ∙ ap (variable v.number) (sym (ap type_of v.is) ∙ y ∙ a))),
        λ z. d.1 (record { number = z.0; ty = arrow (type_at c p) (type_at c q); is = z.1 }),
      )
