-- What a binding that is put into a state keeps.
use Rattle.std.proofs.Common.{ℕ, zero, suc, nat_eq, ◌≡◌, ◌∙◌, ◌+◌, ◌<◌, ◌≤◌, Bool, true, false, List, [], ◌∷◌, ◌++◌, length, map, take, drop, slice_get, slice_index_or, Some, refl, sym, ap, append_assoc, subst, arith}
use Rattle.std.specs.Bool.{if◌then◌else◌}
use Rattle.std.proofs.lemmas.List.{map-append}
use Rattle.std.proofs.lemmas.Bool.Decides.{nat_tests}
use Rattle.leo_q0.specs.Terms.{SimpleType, base}
use Rattle.leo_terms.specs.Tree.{Tree, variable, type_of, substituted, put_in, IsGiven}
use Rattle.leo_terms.specs.Reduction.{Reduces}
use Rattle.leo_terms.specs.NormalForm.{normal_form as normal_form_of}
use Rattle.leo_terms.specs.Normal.{HasNormalForm}
use Rattle.leo_terms.specs.Contents.{Contents, Extends, IsTerm, AreTerms, tree_at, type_at, type_number}
use Rattle.leo_terms.proofs.ReductionLemmas.{IsBoundAt-reduces}
use Rattle.leo_terms.proofs.ListLemmas.{slice_get-append}
use Rattle.leo_terms.proofs.CallerLemmas.{old_bank, new_bank, extends-trans, type-kept, tree-kept, trees-kept, are_terms-kept, type_of-term, normal_form, put_in-is, type_number-within, normal_form-reduces, normal_form-normal, reduces_typed, bound-closed}
use Rattle.leo_clause.specs.Typed.{IsOver, AreTypesOf}
use Rattle.leo_unify.specs.declared.pairs.Pair as declared
use Rattle.leo_unify.specs.declared.state.State as declared_state
use Rattle.leo_unify.specs.declared.binding.Binding as declared_binding
use Rattle.leo_unify.specs.Pairs.{Pair}
use Rattle.leo_unify.specs.Acts.{Binding}
use Rattle.leo_unify.specs.Search.{State, given_from, given_by, put, put_pair, with_binding, long_variables, start, Solution, Finds}
use Rattle.leo_unify.specs.Given.{pair_of, as_pair, IsTypedPair, AreTypedPairs}
use Rattle.leo_unify.specs.Contexts.{AreBoundTo, IsPairIn, ArePairsIn, IsBindingIn, AreTermsIn, AreGivenOver, AreTreesGiven, ArePairsGiven, IsPutTree, ArePutTrees, ArePutPairs}
use Rattle.leo_unify.specs.Views.{pair_at, binding_at, ArePairsOf, IsBindingOf}
use Rattle.leo_unify.specs.States.{state_at, IsStateOf}
use Rattle.leo_unify.proofs.Over.{over-range, over-reduces, over-substituted, bound-substituted, given-over}
use Rattle.leo_unify.proofs.Places.{some-same, get-at, get-mapped, drop-at, take-at}
use Rattle.leo_unify.proofs.Growing.{types-kept, types-grow, types-append, pairs-kept, pairs-of-grow}

-- ---- on trees

module _ (vs ws : List SimpleType) (given : List Tree) (g : AreGivenOver vs ws given) where
  over-put : (t r : Tree) (d : ℕ) → IsPutTree given t r → IsOver vs d t → IsOver ws d r
  over-put t r d p h = over-reduces ws (substituted given 0 t) r p.reduces d (over-substituted vs ws given g t d 0 h)

  bound-put : (types : ℕ → SimpleType) (t r : Tree) (d : ℕ) → IsPutTree given t r → IsOver vs d t → AreBoundTo types t → AreBoundTo types r
  bound-put types t r d p h b j = IsBoundAt-reduces (substituted given 0 t) r p.reduces j (types j) (bound-substituted vs ws given g t d 0 j (types j) h (b j))

  pair-put : (p q : Pair) → IsPutTree given p.left q.left → IsPutTree given p.right q.right → IsPairIn vs p → IsPairIn ws q
  pair-put p q l r h = record {
    depth = h.depth;
    types = h.types;
    left_over = over-put p.left q.left h.depth l h.left_over;
    right_over = over-put p.right q.right h.depth r h.right_over;
    left_bound = bound-put h.types p.left q.left h.depth l h.left_over h.left_bound;
    right_bound = bound-put h.types p.right q.right h.depth r h.right_over h.right_bound;
    same_type = l.same_type ∙ h.same_type ∙ sym r.same_type;
  }

  pub pairs-put : (ps qs : List Pair) → ArePutPairs given ps qs → ArePairsIn vs ps → ArePairsIn ws qs
  pairs-put [] [] p h = tt
  pairs-put (x ∷ ps) (y ∷ qs) p h = (pair-put x y p.0 p.1 h.0, pairs-put ps qs p.2 h.1)
  pairs-put [] (y ∷ qs) p h = absurd p
  pairs-put (x ∷ ps) [] p h = absurd p

  pub terms-put : (ts rs : List Tree) → ArePutTrees given ts rs → AreTermsIn vs ts → AreTermsIn ws rs
  terms-put [] [] p h = tt
  terms-put (t ∷ ts) (r ∷ rs) p h = (over-put t r 0 p.0 h.0, p.0.normal, terms-put ts rs p.1 h.2)
  terms-put [] (r ∷ rs) p h = absurd p
  terms-put (t ∷ ts) [] p h = absurd p

  pub terms-given : (ts : List Tree) → AreTermsIn vs ts → AreTreesGiven given ts
  terms-given [] h = tt
  terms-given (t ∷ ts) h = (given-over vs ws given g t 0 h.0, terms-given ts h.2)

  pub pairs-given : (ps : List Pair) → ArePairsIn vs ps → ArePairsGiven given ps
  pairs-given [] h = tt
  pairs-given (p ∷ ps) h = (given-over vs ws given g p.left h.0.depth h.0.left_over, given-over vs ws given g p.right h.0.depth h.0.right_over, pairs-given ps h.1)

pub types-put : (given : List Tree) (ts rs : List Tree) → ArePutTrees given ts rs → map type_of rs ≡ map type_of ts
types-put given [] [] p = refl
types-put given (t ∷ ts) (r ∷ rs) p = rw (p.0.same_type, types-put given ts rs p.1) refl
types-put given [] (r ∷ rs) p = absurd p
types-put given (t ∷ ts) [] p = absurd p

pub trees-value : (given : List Tree) (ts rs : List Tree) → ArePutTrees given ts rs → rs ≡ map (put given) ts
trees-value given [] [] p = refl
trees-value given (t ∷ ts) (r ∷ rs) p = rw (p.0.value, trees-value given ts rs p.1) refl
trees-value given [] (r ∷ rs) p = absurd p
trees-value given (t ∷ ts) [] p = absurd p

pub pairs-value : (given : List Tree) (ps qs : List Pair) → ArePutPairs given ps qs → qs ≡ map (put_pair given) ps
pairs-value given [] [] p = refl
pairs-value given (x ∷ ps) (y ∷ qs) p =
    let e : y ≡ put_pair given x = rw (p.0.value, p.1.value) refl in
    rw (e, pairs-value given ps qs p.2) refl
pairs-value given [] (y ∷ qs) p = absurd p
pairs-value given (x ∷ ps) [] p = absurd p

-- ---- what stands for each variable

given-get : (number : ℕ) (t : Tree) (types : List SimpleType) (first p : ℕ) (a : SimpleType) → slice_get types p ≡ Some a → slice_get (given_from number t first types) p ≡ Some (if nat_eq (first + p) number then t else variable (first + p) a)
given-get number t [] first p a h = absurd (cc)
given-get number t (b ∷ types) first zero a h =
    let e : b ≡ a = cc in
    let z : first + 0 ≡ first = omega arith in
    rw (z, e) refl
given-get number t (b ∷ types) first (suc p) a h =
    let z : first + suc p ≡ suc first + p = omega arith in
    rw z (given-get number t types (suc first) p a h)

pub given-in : (vs : List SimpleType) (b : Binding) → IsBindingIn vs b → AreGivenOver vs (vs ++ b.fresh) (given_by b (vs ++ b.fresh))
given-in vs b h n a e =
    let f = slice_get-append vs b.fresh n a e in
    let z : 0 + n ≡ n = omega arith in
    let g : slice_get (given_by b (vs ++ b.fresh)) n ≡ Some (if nat_eq n b.number then b.term else variable n a) = rw z at (given-get b.number b.term (vs ++ b.fresh) 0 n a f) in
    here (nat_eq n b.number) refl f g
  where
    here : (t : Bool) → nat_eq n b.number ≡ t → slice_get (vs ++ b.fresh) n ≡ Some a → slice_get (given_by b (vs ++ b.fresh)) n ≡ Some (if t then b.term else variable n a) → (s : Tree) × (slice_get (given_by b (vs ++ b.fresh)) n ≡ Some s) × (type_of s ≡ a) × IsOver (vs ++ b.fresh) 0 s
    here true q f g =
        let m : n ≡ b.number = grind (arith, nat_tests) in
        (b.term, g, some-same (type_of b.term) a (sym h.found ∙ rw (← m) e), h.over)
    here false q f g = (variable n a, g, refl, f)

-- ---- the loops

pub types-at : (c : Contents) (vars : List ℕ) → AreTypesOf c vars → (i a : ℕ) → i < length vars → a ≡ slice_index_or vars i a → a < length c.types
types-at c [] h i a l e = absurd (omega arith)
types-at c (b ∷ vars) h zero a l e = rw e h.0
types-at c (b ∷ vars) h (suc i) a l e = types-at c vars h.1 i a (omega arith) e

-- one variable more
pub given-next : {b c d : Contents} → Extends b c → Extends c d → (vars : List ℕ) (number term p a r : ℕ) (ts : List ℕ) → AreTypesOf b vars → term < length b.terms → AreTerms c ts → p < length vars → a ≡ slice_index_or vars p a → tree_at d r ≡ (if nat_eq p number then tree_at c term else variable p (type_at c a)) → map (tree_at c) ts ++ given_from number (tree_at b term) p (drop p (map (type_at b) vars)) ≡ given_from number (tree_at b term) 0 (map (type_at b) vars) → map (tree_at d) (ts ++ r ∷ []) ++ given_from number (tree_at b term) (p + 1) (drop (p + 1) (map (type_at b) vars)) ≡ given_from number (tree_at b term) 0 (map (type_at b) vars)
given-next {b} {c} {d} e f vars number term p a r ts types lt h l at v g =
    let one : p + 1 ≡ suc p = omega arith in
    let low : a < length b.types = types-at b vars types p a l at in
    let m : drop p (map (type_at b) vars) ≡ type_at b a ∷ drop (suc p) (map (type_at b) vars) = drop-at (map (type_at b) vars) p (type_at b a) (get-mapped (type_at b) vars p a (get-at vars p a l at)) in
    let w : tree_at d r ≡ (if nat_eq p number then tree_at b term else variable p (type_at b a)) = v ∙ rw (tree-kept e term lt, type-kept e a low) refl in
    let s : map (tree_at d) (ts ++ r ∷ []) ≡ map (tree_at c) ts ++ tree_at d r ∷ [] = map-append (tree_at d) ts (r ∷ []) ∙ ap (λ (xs : List Tree). xs ++ tree_at d r ∷ []) (trees-kept f ts h) in
    let k : map (tree_at c) ts ++ ((if nat_eq p number then tree_at b term else variable p (type_at b a)) ∷ given_from number (tree_at b term) (suc p) (drop (suc p) (map (type_at b) vars))) ≡ given_from number (tree_at b term) 0 (map (type_at b) vars) = rw m at g in
    rw (one, s, w) (append_assoc (map (tree_at c) ts) ((if nat_eq p number then tree_at b term else variable p (type_at b a)) ∷ []) (given_from number (tree_at b term) (suc p) (drop (suc p) (map (type_at b) vars))) ∙ k)

-- ---- a term with others put in

pub put-made : {b c d : Contents} → Extends b c → Extends c d → (given : List Tree) (t s r : ℕ) → t < length b.terms → IsTerm c s (type_number b t) (put_in given (tree_at b t)) → HasNormalForm c d s r → IsPutTree given (tree_at b t) (tree_at d r)
put-made {b} {c} {d} e f given t s r l m n =
    let o = normal_form c d s r n in
    let v : tree_at c s ≡ substituted given 0 (tree_at b t) = m.reads ∙ put_in-is given (tree_at b t) in
    let k = type_number-within (old_bank e) t l in
    let y = e.types_more in
    let z : type_number d r ≡ type_number b t = n.type_is ∙ m.type_is in
    record {
      value = n.value ∙ ap normal_form_of v;
      reduces = subst (λ (x : Tree). Reduces x (tree_at d r)) v o.reduces;
      normal = o.normal;
      same_type = type_of-term (new_bank f) r n.within ∙ ap (type_at d) z ∙ type-kept f (type_number b t) (omega arith) ∙ type-kept e (type_number b t) k ∙ sym (type_of-term (old_bank e) t l);
    }

-- ---- lists of terms with others put in

put-end : (given : List Tree) (xs ys : List Tree) (x y : Tree) → ArePutTrees given xs ys → IsPutTree given x y → ArePutTrees given (xs ++ x ∷ []) (ys ++ y ∷ [])
put-end given [] [] x y h p = (p, tt)
put-end given (z ∷ xs) (w ∷ ys) x y h p = (h.0, put-end given xs ys x y h.1 p)
put-end given [] (w ∷ ys) x y h p = absurd h
put-end given (z ∷ xs) [] x y h p = absurd h

pairs-end : (given : List Tree) (xs ys : List Pair) (x y : Pair) → ArePutPairs given xs ys → IsPutTree given x.left y.left → IsPutTree given x.right y.right → ArePutPairs given (xs ++ x ∷ []) (ys ++ y ∷ [])
pairs-end given [] [] x y h p q = (p, q, tt)
pairs-end given (z ∷ xs) (w ∷ ys) x y h p q = (h.0, h.1, pairs-end given xs ys x y h.2 p q)
pairs-end given [] (w ∷ ys) x y h p q = absurd h
pairs-end given (z ∷ xs) [] x y h p q = absurd h

take-next : {X : Type 0} (xs : List X) (i : ℕ) (x : X) → slice_get xs i ≡ Some x → take (i + 1) xs ≡ take i xs ++ x ∷ []
take-next xs i x e = let f : i + 1 ≡ suc i = omega arith in rw f (take-at xs i x e)

pub take-end : {X Y : Type 0} (f : X → Y) (xs : List X) (n : ℕ) → length xs ≤ n → take n (map f xs) ≡ map f xs
take-end f [] zero l = refl
take-end f [] (suc n) l = refl
take-end f (x ∷ xs) zero l = absurd (omega arith)
take-end f (x ∷ xs) (suc n) l = ap (λ zs. f x ∷ zs) (take-end f xs n (omega arith))

trees-given-at : (given : List Tree) (ts : List Tree) → AreTreesGiven given ts → (i : ℕ) (t : Tree) → slice_get ts i ≡ Some t → IsGiven given t
trees-given-at given [] h i t e = absurd (cc)
trees-given-at given (x ∷ ts) h zero t e = let f : x ≡ t = cc in rw (← f) h.0
trees-given-at given (x ∷ ts) h (suc i) t e = trees-given-at given ts h.1 i t e

pairs-given-at : (given : List Tree) (ps : List Pair) → ArePairsGiven given ps → (i : ℕ) (p : Pair) → slice_get ps i ≡ Some p → IsGiven given p.left × IsGiven given p.right
pairs-given-at given [] h i p e = absurd (cc)
pairs-given-at given (x ∷ ps) h zero p e = let f : x ≡ p = cc in rw (← f) (h.0, h.1)
pairs-given-at given (x ∷ ps) h (suc i) p e = pairs-given-at given ps h.2 i p e

pairs-at : (c : Contents) (ps : List declared.Pair) → ArePairsOf c ps → (i : ℕ) (p : declared.Pair) → slice_get ps i ≡ Some p → (p.left < length c.terms) × (p.right < length c.terms)
pairs-at c [] h i p e = absurd (cc)
pairs-at c (x ∷ ps) h zero p e = let f : x ≡ p = cc in rw (← f) (h.0, h.1)
pairs-at c (x ∷ ps) h (suc i) p e = pairs-at c ps h.2 i p e

module _ {b c : Contents} (e : Extends b c) (given : List ℕ) (gs : AreTerms b given) where
  module _ (terms : List ℕ) (ts : AreTerms b terms) (ok : AreTreesGiven (map (tree_at b) given) (map (tree_at b) terms)) (i t : ℕ) (l : i < length terms) (at : t ≡ slice_index_or terms i t) where
    here : t < length b.terms
    here = ts i t (get-at terms i t l at)

    pub term-within : t < length c.terms
    term-within = let k = here in let m = e.terms_more in omega arith

    pub term-given : IsGiven (map (tree_at c) given) (tree_at c t)
    term-given = rw (trees-kept e given gs, tree-kept e t here) (trees-given-at (map (tree_at b) given) (map (tree_at b) terms) ok i (tree_at b t) (get-mapped (tree_at b) terms i t (get-at terms i t l at)))

    pub terms-next : {d : Contents} → Extends c d → (out : List ℕ) → AreTerms c out → ArePutTrees (map (tree_at b) given) (take i (map (tree_at b) terms)) (map (tree_at c) out) → (r : ℕ) → IsPutTree (map (tree_at c) given) (tree_at c t) (tree_at d r) → ArePutTrees (map (tree_at b) given) (take (i + 1) (map (tree_at b) terms)) (map (tree_at d) (out ++ r ∷ []))
    terms-next {d} f out os h r p =
        let q : IsPutTree (map (tree_at b) given) (tree_at b t) (tree_at d r) = rw (trees-kept e given gs, tree-kept e t here) at p in
        let s : map (tree_at d) (out ++ r ∷ []) ≡ map (tree_at c) out ++ tree_at d r ∷ [] = map-append (tree_at d) out (r ∷ []) ∙ ap (λ (xs : List Tree). xs ++ tree_at d r ∷ []) (trees-kept f out os) in
        let u = take-next (map (tree_at b) terms) i (tree_at b t) (get-mapped (tree_at b) terms i t (get-at terms i t l at)) in
        rw (s, u) (put-end (map (tree_at b) given) (take i (map (tree_at b) terms)) (map (tree_at c) out) (tree_at b t) (tree_at d r) h q)

  module _ (pairs : List declared.Pair) (ps : ArePairsOf b pairs) (ok : ArePairsGiven (map (tree_at b) given) (map (pair_at b) pairs)) (i : ℕ) (p : declared.Pair) (l : i < length pairs) (at : p ≡ slice_index_or pairs i p) where
    pair-here : (p.left < length b.terms) × (p.right < length b.terms)
    pair-here = pairs-at b pairs ps i p (get-at pairs i p l at)

    pair-given : IsGiven (map (tree_at b) given) (tree_at b p.left) × IsGiven (map (tree_at b) given) (tree_at b p.right)
    pair-given = pairs-given-at (map (tree_at b) given) (map (pair_at b) pairs) ok i (pair_at b p) (get-mapped (pair_at b) pairs i p (get-at pairs i p l at))

    pub left-within : p.left < length c.terms
    left-within = let k = pair-here.0 in let m = e.terms_more in omega arith

    pub right-within : p.right < length c.terms
    right-within = let k = pair-here.1 in let m = e.terms_more in omega arith

    pub left-given : IsGiven (map (tree_at c) given) (tree_at c p.left)
    left-given = rw (trees-kept e given gs, tree-kept e p.left pair-here.0) pair-given.0

    pub right-given : IsGiven (map (tree_at c) given) (tree_at c p.right)
    right-given = rw (trees-kept e given gs, tree-kept e p.right pair-here.1) pair-given.1

    pub pairs-next : {d : Contents} → Extends c d → (out : List declared.Pair) → ArePairsOf c out → ArePutPairs (map (tree_at b) given) (take i (map (pair_at b) pairs)) (map (pair_at c) out) → (r : declared.Pair) → IsPutTree (map (tree_at c) given) (tree_at c p.left) (tree_at d r.left) → IsPutTree (map (tree_at c) given) (tree_at c p.right) (tree_at d r.right) → ArePutPairs (map (tree_at b) given) (take (i + 1) (map (pair_at b) pairs)) (map (pair_at d) (out ++ r ∷ []))
    pairs-next {d} f out os h r x y =
        let v : IsPutTree (map (tree_at b) given) (tree_at b p.left) (tree_at d r.left) = rw (trees-kept e given gs, tree-kept e p.left pair-here.0) at x in
        let w : IsPutTree (map (tree_at b) given) (tree_at b p.right) (tree_at d r.right) = rw (trees-kept e given gs, tree-kept e p.right pair-here.1) at y in
        let s : map (pair_at d) (out ++ r ∷ []) ≡ map (pair_at c) out ++ pair_at d r ∷ [] = map-append (pair_at d) out (r ∷ []) ∙ ap (λ (xs : List Pair). xs ++ pair_at d r ∷ []) (pairs-kept f out os) in
        let u = take-next (map (pair_at b) pairs) i (pair_at b p) (get-mapped (pair_at b) pairs i p (get-at pairs i p l at)) in
        rw (s, u) (pairs-end (map (tree_at b) given) (take i (map (pair_at b) pairs)) (map (pair_at c) out) (pair_at b p) (pair_at d r) h v w)

-- ---- the state with a binding put in

module _ {a b c d : Contents} (e : Extends a b) (f : Extends b c) (g : Extends c d) (s : declared_state.State) (x : declared_binding.Binding) (h : IsStateOf a s) (k : IsBindingOf a x) (t : IsBindingIn (map (type_at a) s.vars) (binding_at a x)) (vars : List ℕ) (v : vars ≡ s.vars ++ x.fresh) where
  pub vars-of : AreTypesOf a vars
  vars-of = rw v (types-append a s.vars x.fresh h.types_of k.types_of)

  types-are : map (type_at a) vars ≡ map (type_at a) s.vars ++ map (type_at a) x.fresh
  types-are = rw v (map-append (type_at a) s.vars x.fresh)

  module _ (sigma : List ℕ) (w : map (tree_at b) sigma ≡ given_from x.number (tree_at a x.term) 0 (map (type_at a) vars)) (ws : AreTerms b sigma) where
    given-is : map (tree_at b) sigma ≡ given_by (binding_at a x) (map (type_at a) s.vars ++ map (type_at a) x.fresh)
    given-is = w ∙ ap (given_from x.number (tree_at a x.term) 0) types-are

    over-all : AreGivenOver (map (type_at a) s.vars) (map (type_at a) s.vars ++ map (type_at a) x.fresh) (map (tree_at b) sigma)
    over-all = rw given-is (given-in (map (type_at a) s.vars) (binding_at a x) t)

    pub terms-ready : AreTreesGiven (map (tree_at b) sigma) (map (tree_at b) s.terms)
    terms-ready = rw (trees-kept e s.terms h.terms_of) (terms-given (map (type_at a) s.vars) (map (type_at a) s.vars ++ map (type_at a) x.fresh) (map (tree_at b) sigma) over-all (map (tree_at a) s.terms) h.terms_in)

    pairs-later : map (pair_at c) s.pairs ≡ map (pair_at a) s.pairs
    pairs-later = pairs-kept (extends-trans e f) s.pairs h.pairs_of

    pub pairs-of-ready : ArePairsOf c s.pairs
    pairs-of-ready = pairs-of-grow (extends-trans e f) s.pairs h.pairs_of

    pub pairs-ready : ArePairsGiven (map (tree_at c) sigma) (map (pair_at c) s.pairs)
    pairs-ready = rw (trees-kept f sigma ws, pairs-later) (pairs-given (map (type_at a) s.vars) (map (type_at a) s.vars ++ map (type_at a) x.fresh) (map (tree_at b) sigma) over-all (map (pair_at a) s.pairs) h.pairs_in)

    module _ (ts : List ℕ) (p : ArePutTrees (map (tree_at b) sigma) (map (tree_at b) s.terms) (map (tree_at c) ts)) (pw : AreTerms c ts) (ps : List declared.Pair) (q : ArePutPairs (map (tree_at c) sigma) (map (pair_at c) s.pairs) (map (pair_at d) ps)) (qw : ArePairsOf d ps) where
      terms-are : ArePutTrees (map (tree_at b) sigma) (map (tree_at a) s.terms) (map (tree_at d) ts)
      terms-are = rw (trees-kept g ts pw) (rw (trees-kept e s.terms h.terms_of) at p)

      pairs-are : ArePutPairs (map (tree_at b) sigma) (map (pair_at a) s.pairs) (map (pair_at d) ps)
      pairs-are = rw (trees-kept f sigma ws, pairs-later) at q

      all-types : map (type_at d) vars ≡ map (type_at a) s.vars ++ map (type_at a) x.fresh
      all-types = types-kept (extends-trans e (extends-trans f g)) vars vars-of ∙ types-are

      pub state-is : IsStateOf d (record { vars = vars; terms = ts; pairs = ps })
      state-is = record {
        types_of = types-grow (extends-trans e (extends-trans f g)) vars vars-of;
        terms_of = are_terms-kept g ts pw;
        pairs_of = qw;
        terms_in = rw all-types (terms-put (map (type_at a) s.vars) (map (type_at a) s.vars ++ map (type_at a) x.fresh) (map (tree_at b) sigma) over-all (map (tree_at a) s.terms) (map (tree_at d) ts) terms-are h.terms_in);
        pairs_in = rw all-types (pairs-put (map (type_at a) s.vars) (map (type_at a) s.vars ++ map (type_at a) x.fresh) (map (tree_at b) sigma) over-all (map (pair_at a) s.pairs) (map (pair_at d) ps) pairs-are h.pairs_in);
      }

      pub state-types : map type_of (map (tree_at d) ts) ≡ map type_of (map (tree_at a) s.terms)
      state-types = types-put (map (tree_at b) sigma) (map (tree_at a) s.terms) (map (tree_at d) ts) terms-are

      pub state-value : (m o : ℕ) → state_at d (record { vars = vars; terms = ts; pairs = ps }) o ≡ with_binding (state_at a s m) o (binding_at a x)
      state-value m o =
          rw (all-types, trees-value (map (tree_at b) sigma) (map (tree_at a) s.terms) (map (tree_at d) ts) terms-are, pairs-value (map (tree_at b) sigma) (map (pair_at a) s.pairs) (map (pair_at d) ps) pairs-are, given-is) refl

-- ---- the state at first

-- one long variable more
pub long-next : {b c d f : Contents} → Extends b c → Extends c d → Extends d f → (vars : List ℕ) (p n a x r : ℕ) (ts : List ℕ) → AreTypesOf b vars → AreTerms c ts → p < length vars → a ≡ slice_index_or vars p a → n ≡ p → IsTerm d x a (variable n (type_at c a)) → HasNormalForm d f x r → map (tree_at c) ts ++ long_variables p (drop p (map (type_at b) vars)) ≡ long_variables 0 (map (type_at b) vars) → map (tree_at f) (ts ++ r ∷ []) ++ long_variables (p + 1) (drop (p + 1) (map (type_at b) vars)) ≡ long_variables 0 (map (type_at b) vars)
long-next {b} {c} {d} {f} e g k vars p n a x r ts types h l at nu m v q =
    let one : p + 1 ≡ suc p = omega arith in
    let low : a < length b.types = types-at b vars types p a l at in
    let dr : drop p (map (type_at b) vars) ≡ type_at b a ∷ drop (suc p) (map (type_at b) vars) = drop-at (map (type_at b) vars) p (type_at b a) (get-mapped (type_at b) vars p a (get-at vars p a l at)) in
    let w : tree_at f r ≡ normal_form_of (variable p (type_at b a)) = v.value ∙ rw (m.reads, nu, type-kept e a low) refl in
    let s : map (tree_at f) (ts ++ r ∷ []) ≡ map (tree_at c) ts ++ tree_at f r ∷ [] = map-append (tree_at f) ts (r ∷ []) ∙ ap (λ (xs : List Tree). xs ++ tree_at f r ∷ []) (trees-kept (extends-trans g k) ts h) in
    let o : map (tree_at c) ts ++ (normal_form_of (variable p (type_at b a)) ∷ long_variables (suc p) (drop (suc p) (map (type_at b) vars))) ≡ long_variables 0 (map (type_at b) vars) = rw dr at q in
    rw (one, s, w) (append_assoc (map (tree_at c) ts) (normal_form_of (variable p (type_at b a)) ∷ []) (long_variables (suc p) (drop (suc p) (map (type_at b) vars))) ∙ o)

long-in : (vs : List SimpleType) (types : List SimpleType) (first : ℕ) → ((p : ℕ) (a : SimpleType) → slice_get types p ≡ Some a → slice_get vs (first + p) ≡ Some a) → AreTermsIn vs (long_variables first types)
long-in vs [] first h = tt
long-in vs (a ∷ types) first h =
    let r = normal_form-reduces (variable first a) tt in
    let z : first + 0 ≡ first = omega arith in
    let k : slice_get vs first ≡ Some a = rw z at (h zero a refl) in
    (over-reduces vs (variable first a) (normal_form_of (variable first a)) r 0 k, normal_form-normal (variable first a) tt, long-in vs types (suc first) (λ p b g. let y : first + suc p ≡ suc first + p = omega arith in rw y at (h (suc p) b g)))

long-types : (types : List SimpleType) (first : ℕ) → map type_of (long_variables first types) ≡ types
long-types [] first = refl
long-types (a ∷ types) first =
    let r = (reduces_typed (variable first a) (normal_form_of (variable first a)) (normal_form-reduces (variable first a) tt) tt).1.1 in
    rw (r, long-types types (suc first)) refl

start-pair : (c : Contents) (vs : List SimpleType) (p : ℕ × ℕ) → IsTypedPair c vs p → IsPairIn vs (pair_of c p)
start-pair c vs p h = record {
  depth = 0;
  types = λ j. base 0;
  left_over = h.left_over;
  right_over = h.right_over;
  left_bound = λ j. (let l = over-range vs (tree_at c p.0) 0 h.left_over in bound-closed (tree_at c p.0) j (base 0) (omega arith));
  right_bound = λ j. (let l = over-range vs (tree_at c p.1) 0 h.right_over in bound-closed (tree_at c p.1) j (base 0) (omega arith));
  same_type = h.same_type;
}

start-pairs : (c : Contents) (vs : List SimpleType) (ps : List (ℕ × ℕ)) → AreTypedPairs c vs ps → ArePairsIn vs (map (pair_of c) ps)
start-pairs c vs [] h = tt
start-pairs c vs (p ∷ ps) h = (start-pair c vs p h.0, start-pairs c vs ps h.1)

start-of : (c : Contents) (vs : List SimpleType) (ps : List (ℕ × ℕ)) → AreTypedPairs c vs ps → ArePairsOf c (map as_pair ps)
start-of c vs [] h = tt
start-of c vs (p ∷ ps) h = (h.0.left_within, h.0.right_within, start-of c vs ps h.1)

start-same : (c : Contents) (ps : List (ℕ × ℕ)) → map (pair_at c) (map as_pair ps) ≡ map (pair_of c) ps
start-same c [] = refl
start-same c (p ∷ ps) = ap (λ (qs : List Pair). pair_of c p ∷ qs) (start-same c ps)

module _ {a b : Contents} (e : Extends a b) (vars : List ℕ) (types : AreTypesOf a vars) (ps : List (ℕ × ℕ)) (h : AreTypedPairs a (map (type_at a) vars) ps) (terms : List ℕ) (v : map (tree_at b) terms ≡ long_variables 0 (map (type_at a) vars)) (w : AreTerms b terms) where
  pairs-first : map (pair_at b) (map as_pair ps) ≡ map (pair_of a) ps
  pairs-first = pairs-kept e (map as_pair ps) (start-of a (map (type_at a) vars) ps h) ∙ start-same a ps

  pub start-state : IsStateOf b (record { vars = vars; terms = terms; pairs = map as_pair ps })
  start-state = record {
    types_of = types-grow e vars types;
    terms_of = w;
    pairs_of = pairs-of-grow e (map as_pair ps) (start-of a (map (type_at a) vars) ps h);
    terms_in = rw (v, types-kept e vars types) (long-in (map (type_at a) vars) (map (type_at a) vars) 0 (λ p c g. let z : 0 + p ≡ p = omega arith in rw z g));
    pairs_in = rw (pairs-first, types-kept e vars types) (start-pairs a (map (type_at a) vars) ps h);
  }

  pub start-value : (d : ℕ) → state_at b (record { vars = vars; terms = terms; pairs = map as_pair ps }) d ≡ start (map (type_at a) vars) (map (pair_of a) ps) d
  start-value d = rw (pairs-first, v, types-kept e vars types) refl

  pub start-types : map type_of (map (tree_at b) terms) ≡ map (type_at a) vars
  start-types = rw v (long-types (map (type_at a) vars) 0)

pub as-next : (xs : List (ℕ × ℕ)) (out : List declared.Pair) (i : ℕ) (x y : ℕ × ℕ) → i < length xs → x ≡ slice_index_or xs i x → y ≡ slice_index_or xs i y → out ≡ take i (map as_pair xs) → out ++ (record { left = (slice_index_or xs i x).0; right = (slice_index_or xs i y).1 }) ∷ [] ≡ take (i + 1) (map as_pair xs)
as-next xs out i x y l at is h =
    let z : y ≡ x = some-same y x (sym (get-at xs i y l is) ∙ get-at xs i x l at) in
    let p : slice_index_or xs i x ≡ x = sym at in
    let q : slice_index_or xs i y ≡ x = sym is ∙ z in
    rw (h, p, q) (sym (take-next (map as_pair xs) i (as_pair x) (get-mapped as_pair xs i x (get-at xs i x l at))))

pub finds-same : (n : ℕ) (s t : State) (xs : List Solution) → s ≡ t → Finds n s xs → Finds n t xs
finds-same n s t xs e f = subst (λ (z : State). Finds n z xs) e f
