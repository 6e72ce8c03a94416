-- The steps of the calls that bind a variable by a guess.
use Rattle.std.proofs.Common.{ℕ, zero, suc, nat_eq, nat_le, ◌≡◌, ◌∙◌, ◌+◌, ◌<◌, ◌≤◌, Bool, true, false, not, ◌&&◌, List, [], ◌∷◌, ◌++◌, length, map, drop, slice_get, slice_index_or, Option, Some, None, refl, sym, ap, append_assoc, arith}
use Rattle.std.specs.Bool.{if◌then◌else◌}
use Rattle.std.specs.Option.{option_map}
use Rattle.std.proofs.lemmas.List.{map-append}
use Rattle.std.proofs.lemmas.Bool.Decides.{nat_tests}
use Rattle.leo_q0.specs.Terms.{SimpleType, same_type}
use Rattle.leo_terms.specs.Tree.{Tree, bound, type_of}
use Rattle.leo_terms.specs.Contents.{Contents, IsBank, Extends, AreTerms, tree_at, type_at, type_number}
use Rattle.leo_terms.proofs.CallerLemmas.{extends-trans, type-kept, tree-kept, type_of-term}
use Rattle.leo_clause.specs.Typed.{AreTypesOf}
use Rattle.leo_unify.specs.declared.binding.Binding as declared_binding
use Rattle.leo_unify.specs.declared.binding.Frame.{Frame}
use Rattle.leo_unify.specs.Acts.{Binding, domains, result_type, function_type, function_of, taken_by, headed, binders, fresh_values, with_head, takes_few, imitations, projections, bindings}
use Rattle.leo_unify.specs.Heads.{is_head, AreIndexed, IsIndexedHead, IsFrameOf, listed, listed_bindings}
use Rattle.leo_unify.specs.Views.{binding_at, IsBindingOf, AreBindingsOf}
use Rattle.leo_unify.proofs.Places.{some-same, get-at, get-mapped, drop-at, length-map}
use Rattle.leo_unify.proofs.Growing.{types-kept, types-grow}
use Rattle.leo_unify.proofs.PairLemmas.{same-types}
use Rattle.leo_unify.proofs.GuessLemmas.{types-fresh, AllIndexed, indexed-binders, indexed-fresh, indexed-headed}

-- ---- bindings of a bank that grew

module _ {c d : Contents} (e : Extends c d) where
  pub binding-kept : (b : declared_binding.Binding) → IsBindingOf c b → binding_at d b ≡ binding_at c b
  binding-kept b h = rw (types-kept e b.fresh h.types_of, tree-kept e b.term h.within) refl

  pub binding-grows : (b : declared_binding.Binding) → IsBindingOf c b → IsBindingOf d b
  binding-grows b h = record { types_of = types-grow e b.fresh h.types_of; within = let l = h.within in let m = e.terms_more in omega arith }

  pub bindings-kept : (bs : List declared_binding.Binding) → AreBindingsOf c bs → map (binding_at d) bs ≡ map (binding_at c) bs
  bindings-kept [] h = refl
  bindings-kept (b ∷ bs) h = rw (binding-kept b h.0, bindings-kept bs h.1) refl

  pub bindings-grow : (bs : List declared_binding.Binding) → AreBindingsOf c bs → AreBindingsOf d bs
  bindings-grow [] h = tt
  bindings-grow (b ∷ bs) h = (binding-grows b h.0, bindings-grow bs h.1)

pub bindings-of-append : (c : Contents) (xs ys : List declared_binding.Binding) → AreBindingsOf c xs → AreBindingsOf c ys → AreBindingsOf c (xs ++ ys)
bindings-of-append c [] ys h k = k
bindings-of-append c (x ∷ xs) ys h k = (h.0, bindings-of-append c xs ys h.1 k)

pub listed-same : (c : Contents) (o : Option declared_binding.Binding) → map (binding_at c) (listed_bindings o) ≡ listed (option_map (binding_at c) o)
listed-same c None = refl
listed-same c (Some b) = refl

-- ---- a whole binding

module _ {b c : Contents} (e : Extends b c) (frame : Frame) (h : ℕ) (l : h < length b.terms) where
  pub head-kept : is_head (tree_at b h) ≡ true → is_head (tree_at c h) ≡ true
  head-kept k = rw (tree-kept e h l) k

  module _ (taken values : List ℕ) (ts : map (type_at b) taken ≡ taken_by (tree_at b h)) (v : map (tree_at c) values ≡ fresh_values (map (type_at b) frame.outer) frame.next (map (type_at b) taken)) where
    values-are : map (tree_at c) values ≡ fresh_values (map (type_at b) frame.outer) frame.next (taken_by (tree_at b h))
    values-are = v ∙ ap (fresh_values (map (type_at b) frame.outer) frame.next) ts

    pub values-typed : map type_of (map (tree_at c) values) ≡ taken_by (tree_at c h)
    values-typed = ap (map type_of) values-are ∙ types-fresh (map (type_at b) frame.outer) frame.next (taken_by (tree_at b h)) ∙ ap taken_by (sym (tree-kept e h l))

    module _ {d : Contents} (f : Extends c d) (fr : IsFrameOf b frame) (body : ℕ) (w : tree_at d body ≡ headed (tree_at c h) (map (tree_at c) values)) where
      body-is : tree_at d body ≡ headed (tree_at b h) (fresh_values (map (type_at b) frame.outer) frame.next (taken_by (tree_at b h)))
      body-is = w ∙ rw (tree-kept e h l, values-are) refl

      outer-kept : map (type_at d) frame.outer ≡ map (type_at b) frame.outer
      outer-kept = types-kept (extends-trans e f) frame.outer fr.types_of

      pub body-indexed : IsIndexedHead (map (type_at b) frame.outer) (tree_at b h) → AreIndexed (map (type_at d) frame.outer) (tree_at d body)
      body-indexed k = rw (outer-kept, body-is) (indexed-headed (map (type_at b) frame.outer) (tree_at b h) (fresh_values (map (type_at b) frame.outer) frame.next (taken_by (tree_at b h))) k (indexed-fresh (map (type_at b) frame.outer) frame.next (taken_by (tree_at b h))))

      pub whole-binding : {g : Contents} → Extends d g → (types : List ℕ) (term : ℕ) → AreTypesOf c types → map (type_at c) types ≡ map (function_type (map (type_at b) frame.outer)) (map (type_at b) taken) → tree_at g term ≡ function_of (map (type_at d) frame.outer) (tree_at d body) → binding_at g (record { number = frame.number; fresh = types; term = term }) ≡ with_head frame.number (map (type_at b) frame.outer) frame.next (tree_at b h)
      whole-binding i types term k m n =
          let p : map (type_at _) types ≡ map (function_type (map (type_at b) frame.outer)) (taken_by (tree_at b h)) = types-kept (extends-trans f i) types k ∙ m ∙ ap (map (function_type (map (type_at b) frame.outer))) ts in
          let q : tree_at _ term ≡ function_of (map (type_at b) frame.outer) (headed (tree_at b h) (fresh_values (map (type_at b) frame.outer) frame.next (taken_by (tree_at b h)))) = n ∙ rw (outer-kept, body-is) refl in
          rw (p, q) refl

-- ---- at most eight arguments

few-length : (c : Contents) (taken : List ℕ) (t : Tree) → map (type_at c) taken ≡ taken_by t → length (taken_by t) ≡ length taken
few-length c taken t e = ap length (sym e) ∙ length-map (type_at c) taken

pub few-yes : (c : Contents) (taken : List ℕ) (t : Tree) → map (type_at c) taken ≡ taken_by t → length taken ≤ 8 → takes_few t ≡ true
few-yes c taken t e l = (let n = few-length c taken t e in let m : length (taken_by t) ≤ 8 = omega arith in decides (length (taken_by t)) m)
  where
    decides : (k : ℕ) → k ≤ 8 → nat_le k 8 ≡ true
    decides k m = grind (arith, nat_tests)

pub few-no : (c : Contents) (taken : List ℕ) (t : Tree) → map (type_at c) taken ≡ taken_by t → 8 < length taken → takes_few t ≡ false
few-no c taken t e l = (let n = few-length c taken t e in let m : 8 < length (taken_by t) = omega arith in decides (length (taken_by t)) m)
  where
    decides : (k : ℕ) → 8 < k → nat_le k 8 ≡ false
    decides k m = grind (arith, nat_tests)

pub one-listed : (b : Bool) (x y : Binding) → b ≡ true → x ≡ y → x ∷ [] ≡ (if b then y ∷ [] else [])
one-listed b x y e f = rw (e, f) refl

pub none-listed : (b : Bool) (y : Binding) → b ≡ false → [] ≡ (if b then y ∷ [] else [])
none-listed b y e = rw e refl

pub and-listed : (a b : Bool) (xs : List Binding) (y : Binding) → a ≡ true → xs ≡ (if b then y ∷ [] else []) → xs ≡ (if a && b then y ∷ [] else [])
and-listed a b xs y e f = rw e f

pub first-none : (a b : Bool) (y : Binding) → a ≡ false → [] ≡ (if a && b then y ∷ [] else [])
first-none a b y e = rw e refl

-- ---- the types of results

not-true : (b : Bool) → true ≡ not b → b ≡ false
not-true true e = cc
not-true false e = refl

not-false : (b : Bool) → false ≡ not b → b ≡ true
not-false true e = refl
not-false false e = cc

module _ (c : Contents) (s : IsBank c) (x ty result end : ℕ) (l : x < length c.terms) (lr : result < length c.types) (le : end < length c.types) (t : ty ≡ type_number c x) (r : type_at c result ≡ result_type (type_at c ty)) where
  ends : nat_eq result end ≡ same_type (result_type (type_of (tree_at c x))) (type_at c end)
  ends = same-types c s result end lr le ∙ rw (r, t, type_of-term s x l) refl

  pub ends-no : (q : Bool) → q ≡ not (nat_eq result end) → q ≡ true → same_type (result_type (type_of (tree_at c x))) (type_at c end) ≡ false
  ends-no q e f = sym ends ∙ not-true (nat_eq result end) (sym f ∙ e)

  pub ends-yes : (q : Bool) → q ≡ not (nat_eq result end) → q ≡ false → same_type (result_type (type_of (tree_at c x))) (type_at c end) ≡ true
  ends-yes q e f = sym ends ∙ not-false (nat_eq result end) (sym f ∙ e)

-- ---- projections

binder-at : (types : List SimpleType) (p : ℕ) (t : Tree) → slice_get (binders types) p ≡ Some t → (i : ℕ) × (a : SimpleType) × (t ≡ bound i a)
binder-at [] p t e = absurd (cc)
binder-at (a ∷ types) zero t e = (length types, a, sym (some-same (bound (length types) a) t e))
binder-at (a ∷ types) (suc p) t e = binder-at types p t e

indexed-at : (outer : List SimpleType) (xs : List Tree) (p : ℕ) (t : Tree) → AllIndexed outer xs → slice_get xs p ≡ Some t → AreIndexed outer t
indexed-at outer [] p t h e = absurd (cc)
indexed-at outer (x ∷ xs) zero t h e = let f : x ≡ t = some-same x t e in rw (← f) h.0
indexed-at outer (x ∷ xs) (suc p) t h e = indexed-at outer xs p t h.1 e

module _ {b c : Contents} (e : Extends b c) (frame : Frame) (fr : IsFrameOf b frame) (p x : ℕ) (l : p < length frame.binders) (at : x ≡ slice_index_or frame.binders p x) where
  found : slice_get frame.binders p ≡ Some x
  found = get-at frame.binders p x l at

  here : x < length b.terms
  here = fr.binders_of p x found

  at-binders : slice_get (binders (map (type_at b) frame.outer)) p ≡ Some (tree_at b x)
  at-binders = rw fr.binders_are at (get-mapped (tree_at b) frame.binders p x found)

  pub binder-within : x < length c.terms
  binder-within = let k = here in let m = e.terms_more in omega arith

  pub binder-head : is_head (tree_at c x) ≡ true
  binder-head = (let w = binder-at (map (type_at b) frame.outer) p (tree_at b x) at-binders in rw (tree-kept e x here, w.2) refl)

  pub binder-indexed : IsIndexedHead (map (type_at c) frame.outer) (tree_at c x)
  binder-indexed =
      let w = binder-at (map (type_at b) frame.outer) p (tree_at b x) at-binders in
      let i = indexed-at (map (type_at b) frame.outer) (binders (map (type_at b) frame.outer)) p (tree_at b x) (indexed-binders (map (type_at b) frame.outer)) at-binders in
      rw (types-kept e frame.outer fr.types_of, tree-kept e x here, w.2) (rw w.2 at i)

  module _ {d : Contents} (f : Extends c d) (end : ℕ) (le : end < length b.types) (all : List declared_binding.Binding) (one : Option declared_binding.Binding) (ao : AreBindingsOf c all) where
    pub projection-next : (whole : List Binding) → listed (option_map (binding_at d) one) ≡ (if same_type (result_type (type_of (tree_at c x))) (type_at c end) && takes_few (tree_at c x) then with_head frame.number (map (type_at c) frame.outer) frame.next (tree_at c x) ∷ [] else []) → map (binding_at c) all ++ projections frame.number (map (type_at b) frame.outer) frame.next (type_at b end) (drop p (binders (map (type_at b) frame.outer))) ≡ whole → map (binding_at d) (all ++ listed_bindings one) ++ projections frame.number (map (type_at b) frame.outer) frame.next (type_at b end) (drop (p + 1) (binders (map (type_at b) frame.outer))) ≡ whole
    projection-next whole v g =
        let one_more : p + 1 ≡ suc p = omega arith in
        let dr = drop-at (binders (map (type_at b) frame.outer)) p (tree_at b x) at-binders in
        let u : listed (option_map (binding_at d) one) ≡ (if same_type (result_type (type_of (tree_at b x))) (type_at b end) && takes_few (tree_at b x) then with_head frame.number (map (type_at b) frame.outer) frame.next (tree_at b x) ∷ [] else []) = rw (types-kept e frame.outer fr.types_of, tree-kept e x here, type-kept e end le) at v in
        let s : map (binding_at d) (all ++ listed_bindings one) ≡ map (binding_at c) all ++ (if same_type (result_type (type_of (tree_at b x))) (type_at b end) && takes_few (tree_at b x) then with_head frame.number (map (type_at b) frame.outer) frame.next (tree_at b x) ∷ [] else []) = map-append (binding_at d) all (listed_bindings one) ∙ rw (bindings-kept f all ao, listed-same d one, u) refl in
        let k : map (binding_at c) all ++ ((if same_type (result_type (type_of (tree_at b x))) (type_at b end) && takes_few (tree_at b x) then with_head frame.number (map (type_at b) frame.outer) frame.next (tree_at b x) ∷ [] else []) ++ projections frame.number (map (type_at b) frame.outer) frame.next (type_at b end) (drop (suc p) (binders (map (type_at b) frame.outer)))) ≡ whole = rw dr at g in
        rw (one_more, s) (append_assoc (map (binding_at c) all) (if same_type (result_type (type_of (tree_at b x))) (type_at b end) && takes_few (tree_at b x) then with_head frame.number (map (type_at b) frame.outer) frame.next (tree_at b x) ∷ [] else []) (projections frame.number (map (type_at b) frame.outer) frame.next (type_at b end) (drop (suc p) (binders (map (type_at b) frame.outer)))) ∙ k)

-- ---- all bindings

pub new-frame : {b c : Contents} → Extends b c → (f : Frame) → AreTypesOf b f.outer → map (tree_at c) f.binders ≡ binders (map (type_at b) f.outer) → AreTerms c f.binders → IsFrameOf c f
new-frame e f h v t = record { types_of = types-grow e f.outer h; binders_of = t; binders_are = v ∙ ap binders (sym (types-kept e f.outer h)) }

pub bindings-made : {b c d : Contents} → Extends b c → Extends c d → (outer : List ℕ) (ty end h number next : ℕ) → AreTypesOf b outer → map (type_at b) outer ≡ domains (type_at b ty) → end < length b.types → type_at b end ≡ result_type (type_at b ty) → h < length b.terms → (first : Option declared_binding.Binding) (bs : List declared_binding.Binding) (all : List Binding) → listed (option_map (binding_at d) first) ≡ imitations number (map (type_at c) outer) next (tree_at c h) → bs ≡ listed_bindings first → all ≡ map (binding_at d) bs ++ projections number (map (type_at d) outer) next (type_at d end) (binders (map (type_at d) outer)) → all ≡ bindings number (type_at b ty) next (tree_at b h)
bindings-made {b} {c} {d} e f outer ty end h number next types o le r lh first bs all i k v =
    let m : map (type_at c) outer ≡ domains (type_at b ty) = types-kept e outer types ∙ o in
    let n : map (type_at d) outer ≡ domains (type_at b ty) = types-kept (extends-trans e f) outer types ∙ o in
    let p : type_at d end ≡ result_type (type_at b ty) = type-kept (extends-trans e f) end le ∙ r in
    v ∙ rw (k, listed-same d first, i, m, n, p, tree-kept e h lh) refl
