-- A variable bound to a term, as far as that can be.
use Rattle.std.proofs.Common.{ℕ, zero, suc, nat_eq, ◌≡◌, ◌∙◌, ◌<◌, Bool, true, false, List, [], ◌∷◌, ◌++◌, length, map, slice_get, slice_index_or, Some, refl, ap, arith}
use Rattle.leo_q0.specs.Terms.{SimpleType}
use Rattle.leo_terms.specs.Contents.{Contents, IsBank, type_at, tree_at}
use Rattle.leo_terms.proofs.CallerLemmas.{term-shared}
use Rattle.leo_clause.specs.Typed.{AreTypesOf}
use Rattle.leo_keep.specs.declared.matching.Binding.{Binding}
use Rattle.leo_keep.specs.Subsumption.{MayReplace}
use Rattle.leo_keep.specs.Matching.{AreBindings, IsBoundTo, IsGivenAt, IsUnbound, Narrows}
use Rattle.leo_keep.proofs.Numbers.{get-mapped, number-decides, same-item}
use Rattle.leo_keep.proofs.Replacements.{replacement-at}
use Rattle.leo_keep.proofs.Bindings.{binding-at, bindings-last, bound-obeyed, obey-back, obey-both}
use Rattle.leo_keep.proofs.Narrowing.{never, decided}

pub types-at : (c : Contents) (vars : List ℕ) → AreTypesOf c vars → (i a : ℕ) → i < length vars → a ≡ slice_index_or vars i a → a < length c.types
types-at c [] h i a l e = absurd (omega arith)
types-at c (b ∷ vars) h zero a l e = rw e h.0
types-at c (b ∷ vars) h (suc i) a l e = types-at c vars h.1 i a (omega arith) e

module _ (c : Contents) (vars : List ℕ) (old : List Binding) (n t a : ℕ) (sound : AreBindings c (map (type_at c) vars) old) (at : slice_get vars n ≡ Some a) where
  pub cannot-bind : (MayReplace (type_at c a) (tree_at c t) → ⊥) → Narrows c (map (type_at c) vars) old old false (IsGivenAt n (tree_at c t))
  cannot-bind f =
      never c (map (type_at c) vars) old (IsGivenAt n (tree_at c t)) sound (λ terms h o q.
      let r = replacement-at (map (type_at c) vars) terms h n (type_at c a) (get-mapped (type_at c) vars n a at) in
      let e : r.term ≡ tree_at c t = same-item (slice_get terms n) r.term (tree_at c t) r.stands q in
      f (rw e at r.replaces))

  pub binds : t < length c.terms → MayReplace (type_at c a) (tree_at c t) → IsUnbound n old → Narrows c (map (type_at c) vars) old (old ++ (record { variable = n; term = t }) ∷ []) true (IsGivenAt n (tree_at c t))
  binds l m u = record {
    more = (record { variable = n; term = t }) ∷ [];
    extends = refl;
    sound = bindings-last c (map (type_at c) vars) old (record { variable = n; term = t }) sound
        (record { within = l; ty = type_at c a; declared = get-mapped (type_at c) vars n a at; may_replace = m }) u;
    gained = λ e terms h o. (obey-back c old ((record { variable = n; term = t }) ∷ []) terms o).0;
    kept = λ e terms h o q. obey-both c old ((record { variable = n; term = t }) ∷ []) terms o (q, tt);
    refused = λ e. (let f : ⊥ = cc in absurd f);
  }

pub bound-again : (c : Contents) (b : IsBank c) (variables : List SimpleType) (old : List Binding) (n t u : ℕ) → AreBindings c variables old → t < length c.terms → IsBoundTo n u old → (r : Bool) → r ≡ nat_eq u t → Narrows c variables old old r (IsGivenAt n (tree_at c t))
bound-again c b variables old n t u sound l h r e =
    decided c variables old r (u ≡ t) (IsGivenAt n (tree_at c t)) sound (rw e (number-decides u t))
    (λ terms a o f. bound-obeyed c n u old terms h o ∙ ap (λ x. Some (tree_at c x)) f)
    (λ terms a o q.
    let f : tree_at c u ≡ tree_at c t = same-item (slice_get terms n) (tree_at c u) (tree_at c t) (bound-obeyed c n u old terms h o) q in
    let k = binding-at c variables old sound h.place h.binding h.stands in
    let m : u < length c.terms = rw h.term_is at k.within in
    term-shared b u t m l f)
