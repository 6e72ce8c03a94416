-- The solutions of states, and the solutions of a bank that grew.
use Rattle.std.proofs.Common.{ℕ, zero, suc, ◌≡◌, ◌∙◌, ◌+◌, ◌-◌, ◌<◌, ◌≤◌, List, [], ◌∷◌, ◌++◌, length, map, take, drop, slice_get, slice_index_or, Some, refl, sym, ap, append_assoc, subst, arith}
use Rattle.std.proofs.lemmas.List.{map-append, length-append}
use Rattle.leo_q0.specs.Terms.{SimpleType}
use Rattle.leo_terms.specs.Tree.{type_of}
use Rattle.leo_terms.specs.Contents.{Contents, Extends, tree_at, type_at}
use Rattle.leo_terms.proofs.CallerLemmas.{extends-trans, trees-kept, are_terms-kept}
use Rattle.leo_unify.specs.declared.state.State as declared_state
use Rattle.leo_unify.specs.declared.sigma.Sigma.{Sigma}
use Rattle.leo_unify.specs.declared.binding.Binding as declared_binding
use Rattle.leo_unify.specs.declared.pairs.Pair as declared_pair
use Rattle.leo_unify.specs.Pairs.{Pair}
use Rattle.leo_unify.specs.Acts.{Binding}
use Rattle.leo_unify.specs.Contexts.{ArePairsIn, IsBindingIn, AreBindingsIn}
use Rattle.leo_unify.specs.Search.{State, Solution, rests, becomes, branches, step_of, solution_of, with_binding, with_pairs, Finds, FindsAmong, enough, found, none, later, branched, at_end, in_turn}
use Rattle.leo_unify.specs.States.{state_at, IsStateOf}
use Rattle.leo_unify.specs.Solutions.{sigma_at, IsSigmaOf, AreSigmasOf}
use Rattle.leo_unify.specs.Views.{pair_at, binding_at, ArePairsOf, IsBindingOf, AreBindingsOf}
use Rattle.leo_unify.proofs.Places.{get-at, get-mapped, take-at, length-map}
use Rattle.leo_unify.proofs.GuessSteps.{binding-kept, binding-grows}
use Rattle.leo_unify.proofs.Growing.{types-kept, types-grow, pairs-kept, pairs-of-grow, pairs-of-append}

-- ---- how many are found

mutual
  pub finds-few : (n : ℕ) (s : State) (xs : List Solution) → Finds n s xs → length xs ≤ n
  finds-few _ _ _ (enough s) = omega arith
  finds-few _ _ _ (found n s e) = omega arith
  finds-few _ _ _ (none n s e) = omega arith
  finds-few _ _ _ (later n s t xs e f) = finds-few n t xs f
  finds-few _ _ _ (branched n s ss xs e f) = finds-few_among n ss xs f

  pub finds-few_among : (n : ℕ) (ss : List State) (xs : List Solution) → FindsAmong n ss xs → length xs ≤ n
  finds-few_among _ _ _ (at_end n) = omega arith
  finds-few_among _ _ _ (in_turn n s ss xs ys f g) =
      let p = finds-few n s xs f in
      let q = finds-few_among (n - length xs) ss ys g in
      let m = length-append xs ys in
      omega arith

append-none : {X : Type 0} (xs : List X) → xs ++ [] ≡ xs
append-none [] = refl
append-none (x ∷ xs) = ap (λ z. x ∷ z) (append-none xs)

-- one state more
pub among-end : (n : ℕ) (ss : List State) (xs : List Solution) (s : State) (ys : List Solution) → FindsAmong n ss xs → Finds (n - length xs) s ys → FindsAmong n (ss ++ s ∷ []) (xs ++ ys)
among-end _ _ _ s ys (at_end n) f =
    let z : n - 0 ≡ n = omega arith in
    let g : Finds n s ys = subst (λ (k : ℕ). Finds k s ys) z f in
    subst (λ (zs : List Solution). FindsAmong n (s ∷ []) zs) (append-none ys) (in_turn n s [] ys [] g (at_end (n - length ys)))
among-end _ _ _ s ys (in_turn n t ss xs zs p q) f =
    let m : n - length (xs ++ zs) ≡ (n - length xs) - length zs = let k = length-append xs zs in omega arith in
    let g : Finds ((n - length xs) - length zs) s ys = subst (λ (k : ℕ). Finds k s ys) m f in
    subst (λ (ws : List Solution). FindsAmong n (t ∷ (ss ++ s ∷ [])) ws) (sym (append_assoc xs zs ys)) (in_turn n t (ss ++ s ∷ []) xs (zs ++ ys) p (among-end (n - length xs) ss zs s ys q g))

-- ---- solutions of a bank that grew

module _ {c d : Contents} (e : Extends c d) where
  sigma-kept : (types : List SimpleType) (s : Sigma) → IsSigmaOf c types s → sigma_at d s ≡ sigma_at c s
  sigma-kept types s h = rw (types-kept e s.vars h.types_of, trees-kept e s.terms h.terms_of) refl

  pub sigmas-kept : (types : List SimpleType) (ss : List Sigma) → AreSigmasOf c types ss → map (sigma_at d) ss ≡ map (sigma_at c) ss
  sigmas-kept types [] h = refl
  sigmas-kept types (s ∷ ss) h = rw (sigma-kept types s h.0, sigmas-kept types ss h.1) refl

  sigma-grows : (types : List SimpleType) (s : Sigma) → IsSigmaOf c types s → IsSigmaOf d types s
  sigma-grows types s h = record {
    types_of = types-grow e s.vars h.types_of;
    terms_of = are_terms-kept e s.terms h.terms_of;
    terms_in = rw (types-kept e s.vars h.types_of, trees-kept e s.terms h.terms_of) h.terms_in;
    typed = rw (trees-kept e s.terms h.terms_of) h.typed;
  }

  pub sigmas-grow : (types : List SimpleType) (ss : List Sigma) → AreSigmasOf c types ss → AreSigmasOf d types ss
  sigmas-grow types [] h = tt
  sigmas-grow types (s ∷ ss) h = (sigma-grows types s h.0, sigmas-grow types ss h.1)

  -- states
  pub state-kept : (s : declared_state.State) → IsStateOf c s → (m : ℕ) → state_at d s m ≡ state_at c s m
  state-kept s h m = rw (types-kept e s.vars h.types_of, trees-kept e s.terms h.terms_of, pairs-kept e s.pairs h.pairs_of) refl

  pub state-grows : (s : declared_state.State) → IsStateOf c s → IsStateOf d s
  state-grows s h = record {
    types_of = types-grow e s.vars h.types_of;
    terms_of = are_terms-kept e s.terms h.terms_of;
    pairs_of = pairs-of-grow e s.pairs h.pairs_of;
    terms_in = rw (types-kept e s.vars h.types_of, trees-kept e s.terms h.terms_of) h.terms_in;
    pairs_in = rw (types-kept e s.vars h.types_of, pairs-kept e s.pairs h.pairs_of) h.pairs_in;
  }

pub sigmas-append : (c : Contents) (types : List SimpleType) (ss ts : List Sigma) → AreSigmasOf c types ss → AreSigmasOf c types ts → AreSigmasOf c types (ss ++ ts)
sigmas-append c types [] ts h k = k
sigmas-append c types (s ∷ ss) ts h k = (h.0, sigmas-append c types ss ts h.1 k)

-- a state as a solution
pub solution-is : (c : Contents) (s : declared_state.State) → IsStateOf c s → IsSigmaOf c (map type_of (map (tree_at c) s.terms)) (record { vars = s.vars; terms = s.terms })
solution-is c s h = record { types_of = h.types_of; terms_of = h.terms_of; terms_in = h.terms_in; typed = refl }

-- ---- other pairs in a state

pairs-in-append : (vs : List SimpleType) (ps qs : List Pair) → ArePairsIn vs ps → ArePairsIn vs qs → ArePairsIn vs (ps ++ qs)
pairs-in-append vs [] qs h k = k
pairs-in-append vs (p ∷ ps) qs h k = (h.0, pairs-in-append vs ps qs h.1 k)

pairs-in-take : (vs : List SimpleType) (ps : List Pair) (n : ℕ) → ArePairsIn vs ps → ArePairsIn vs (take n ps)
pairs-in-take vs [] zero h = tt
pairs-in-take vs [] (suc n) h = tt
pairs-in-take vs (p ∷ ps) zero h = tt
pairs-in-take vs (p ∷ ps) (suc n) h = (h.0, pairs-in-take vs ps n h.1)

pairs-in-drop : (vs : List SimpleType) (ps : List Pair) (n : ℕ) → ArePairsIn vs ps → ArePairsIn vs (drop n ps)
pairs-in-drop vs [] zero h = tt
pairs-in-drop vs [] (suc n) h = tt
pairs-in-drop vs (p ∷ ps) zero h = h
pairs-in-drop vs (p ∷ ps) (suc n) h = pairs-in-drop vs ps n h.1

pairs-of-take : (c : Contents) (ps : List declared_pair.Pair) (n : ℕ) → ArePairsOf c ps → ArePairsOf c (take n ps)
pairs-of-take c [] zero h = tt
pairs-of-take c [] (suc n) h = tt
pairs-of-take c (p ∷ ps) zero h = tt
pairs-of-take c (p ∷ ps) (suc n) h = (h.0, h.1, pairs-of-take c ps n h.2)

pairs-of-drop : (c : Contents) (ps : List declared_pair.Pair) (n : ℕ) → ArePairsOf c ps → ArePairsOf c (drop n ps)
pairs-of-drop c [] zero h = tt
pairs-of-drop c [] (suc n) h = tt
pairs-of-drop c (p ∷ ps) zero h = h
pairs-of-drop c (p ∷ ps) (suc n) h = pairs-of-drop c ps n h.2

map-take : {X Y : Type 0} (f : X → Y) (xs : List X) (n : ℕ) → map f (take n xs) ≡ take n (map f xs)
map-take f [] zero = refl
map-take f [] (suc n) = refl
map-take f (x ∷ xs) zero = refl
map-take f (x ∷ xs) (suc n) = ap (λ z. f x ∷ z) (map-take f xs n)

map-drop : {X Y : Type 0} (f : X → Y) (xs : List X) (n : ℕ) → map f (drop n xs) ≡ drop n (map f xs)
map-drop f [] zero = refl
map-drop f [] (suc n) = refl
map-drop f (x ∷ xs) zero = refl
map-drop f (x ∷ xs) (suc n) = map-drop f xs n

module _ (c : Contents) (s t : declared_state.State) (h : IsStateOf c s) (i : ℕ) (new : List declared_pair.Pair) (k : ArePairsOf c new) (m : ArePairsIn (map (type_at c) s.vars) (map (pair_at c) new)) (v : t.vars ≡ s.vars) (w : t.terms ≡ s.terms) (p : t.pairs ≡ take i s.pairs ++ (new ++ drop (i + 1) s.pairs)) where
  pub replaced-pairs : map (pair_at c) t.pairs ≡ take i (map (pair_at c) s.pairs) ++ (map (pair_at c) new ++ drop (i + 1) (map (pair_at c) s.pairs))
  replaced-pairs = rw (p, map-append (pair_at c) (take i s.pairs) (new ++ drop (i + 1) s.pairs), map-append (pair_at c) new (drop (i + 1) s.pairs), map-take (pair_at c) s.pairs i, map-drop (pair_at c) s.pairs (i + 1)) refl

  pub replaced-state : IsStateOf c t
  replaced-state = record {
    types_of = rw v h.types_of;
    terms_of = rw w h.terms_of;
    pairs_of = rw p (pairs-of-append c (take i s.pairs) (new ++ drop (i + 1) s.pairs) (pairs-of-take c s.pairs i h.pairs_of) (pairs-of-append c new (drop (i + 1) s.pairs) k (pairs-of-drop c s.pairs (i + 1) h.pairs_of)));
    terms_in = rw (v, w) h.terms_in;
    pairs_in = rw (replaced-pairs, v) (pairs-in-append (map (type_at c) s.vars) (take i (map (pair_at c) s.pairs)) _ (pairs-in-take (map (type_at c) s.vars) (map (pair_at c) s.pairs) i h.pairs_in) (pairs-in-append (map (type_at c) s.vars) (map (pair_at c) new) _ m (pairs-in-drop (map (type_at c) s.vars) (map (pair_at c) s.pairs) (i + 1) h.pairs_in)));
  }

  pub replaced-value : (d : ℕ) → state_at c t d ≡ record { variables = map (type_at c) s.vars; terms = map (tree_at c) s.terms; pairs = take i (map (pair_at c) s.pairs) ++ (map (pair_at c) new ++ drop (i + 1) (map (pair_at c) s.pairs)); depth = d }
  replaced-value d = rw (replaced-pairs, v, w) refl

-- ---- one step of the search

module _ {b c : Contents} (e : Extends b c) (p : declared_state.State) (h : IsStateOf b p) (d w i : ℕ) where
  pub rest-finds : (w ≡ 0 → ⊥) → step_of (state_at b p d) ≡ rests → Finds w (state_at b p d) (sigma_at c (record { vars = p.vars; terms = p.terms }) ∷ [])
  rest-finds n q =
      let v : sigma_at c (record { vars = p.vars; terms = p.terms }) ≡ solution_of (state_at b p d) = rw (types-kept e p.vars h.types_of, trees-kept e p.terms h.terms_of) refl in
      rw v (go w n)
    where
      go : (w : ℕ) → (w ≡ 0 → ⊥) → Finds w (state_at b p d) (solution_of (state_at b p d) ∷ [])
      go zero n = absurd (n refl)
      go (suc w) n = found w (state_at b p d) q

  pub rest-sigmas : (types : List SimpleType) → map type_of (map (tree_at b) p.terms) ≡ types → AreSigmasOf c types (record { vars = p.vars; terms = p.terms } ∷ [])
  rest-sigmas types q =
      let k : map type_of (map (tree_at c) p.terms) ≡ types = rw (trees-kept e p.terms h.terms_of) q in
      (rw (← k) (solution-is c p (state-grows e p h)), tt)

  module _ (new : List declared_pair.Pair) (k : ArePairsOf c new) (m : ArePairsIn (map (type_at b) p.vars) (map (pair_at c) new)) (t : declared_state.State) (v : t.vars ≡ p.vars) (u : t.terms ≡ p.terms) (o : t.pairs ≡ take i p.pairs ++ (new ++ drop (i + 1) p.pairs)) where
    in-later : ArePairsIn (map (type_at c) p.vars) (map (pair_at c) new)
    in-later = rw (types-kept e p.vars h.types_of) m

    pub replace-state : IsStateOf c t
    replace-state = replaced-state c p t (state-grows e p h) i new k in-later v u o

    pub replace-types : map type_of (map (tree_at c) t.terms) ≡ map type_of (map (tree_at b) p.terms)
    replace-types = rw (u, trees-kept e p.terms h.terms_of) refl

    pub replace-finds : step_of (state_at b p d) ≡ becomes (with_pairs (state_at b p d) (take i (map (pair_at b) p.pairs) ++ (map (pair_at c) new ++ drop (i + 1) (map (pair_at b) p.pairs)))) → (xs : List Solution) → Finds w (state_at c t d) xs → Finds w (state_at b p d) xs
    replace-finds q xs f =
        let x : state_at c t d ≡ with_pairs (state_at b p d) (take i (map (pair_at b) p.pairs) ++ (map (pair_at c) new ++ drop (i + 1) (map (pair_at b) p.pairs))) = replaced-value c p t (state-grows e p h) i new k in-later v u o d ∙ rw (types-kept e p.vars h.types_of, trees-kept e p.terms h.terms_of, pairs-kept e p.pairs h.pairs_of) refl in
        later w (state_at b p d) (state_at c t d) xs (rw (← x) at q) f

  module _ (x : declared_binding.Binding) where
    pub bind-in : IsBindingIn (map (type_at b) p.vars) (binding_at c x) → IsBindingIn (map (type_at c) p.vars) (binding_at c x)
    bind-in m = rw (types-kept e p.vars h.types_of) m

    pub bind-finds : step_of (state_at b p d) ≡ becomes (with_binding (state_at b p d) d (binding_at c x)) → (f : Contents) (t : declared_state.State) → ((n o : ℕ) → state_at f t o ≡ with_binding (state_at c p n) o (binding_at c x)) → (xs : List Solution) → Finds w (state_at f t d) xs → Finds w (state_at b p d) xs
    bind-finds q f t v xs g =
        let y : state_at f t d ≡ with_binding (state_at b p d) d (binding_at c x) = v d d ∙ ap (λ (s : State). with_binding s d (binding_at c x)) (state-kept e p h d) in
        later w (state_at b p d) (state_at f t d) xs (q ∙ ap becomes (sym y)) g

    pub bind-types : (f : Contents) (t : declared_state.State) → map type_of (map (tree_at f) t.terms) ≡ map type_of (map (tree_at c) p.terms) → map type_of (map (tree_at f) t.terms) ≡ map type_of (map (tree_at b) p.terms)
    bind-types f t v = v ∙ rw (trees-kept e p.terms h.terms_of) refl

  module _ (bs : List declared_binding.Binding) where
    pub branch-in : AreBindingsIn (map (type_at b) p.vars) (map (binding_at c) bs) → AreBindingsIn (map (type_at c) p.vars) (map (binding_at c) bs)
    branch-in m = rw (types-kept e p.vars h.types_of) m

    pub branch-finds : step_of (state_at b p d) ≡ branches (map (with_binding (state_at b p d) (d - 1)) (map (binding_at c) bs)) → (left : ℕ) → left + 1 ≡ d → (xs : List Solution) → ((n : ℕ) → FindsAmong w (map (with_binding (state_at c p n) left) (map (binding_at c) bs)) xs) → Finds w (state_at b p d) xs
    branch-finds q left l xs g =
        let z : left ≡ d - 1 = omega arith in
        let y : FindsAmong w (map (with_binding (state_at b p d) (d - 1)) (map (binding_at c) bs)) xs = rw (state-kept e p h d, z) at (g d) in
        branched w (state_at b p d) _ xs q y

    pub branch-types : (f : Contents) (types : List SimpleType) (ss : List Sigma) → map type_of (map (tree_at b) p.terms) ≡ types → AreSigmasOf f (map type_of (map (tree_at c) p.terms)) ss → AreSigmasOf f types ss
    branch-types f types ss q k =
        let z : map type_of (map (tree_at c) p.terms) ≡ types = rw (trees-kept e p.terms h.terms_of) q in
        rw z at k

-- ---- the branches

take-all : {X : Type 0} (xs : List X) (n : ℕ) → length xs ≤ n → take n xs ≡ xs
take-all [] zero l = refl
take-all [] (suc n) l = refl
take-all (x ∷ xs) zero l = absurd (omega arith)
take-all (x ∷ xs) (suc n) l = ap (λ zs. x ∷ zs) (take-all xs n (omega arith))

bindings-of-at : (c : Contents) (bs : List declared_binding.Binding) → AreBindingsOf c bs → (i : ℕ) (b : declared_binding.Binding) → slice_get bs i ≡ Some b → IsBindingOf c b
bindings-of-at c [] h i b e = absurd (cc)
bindings-of-at c (x ∷ bs) h zero b e = let f : x ≡ b = cc in rw (← f) h.0
bindings-of-at c (x ∷ bs) h (suc i) b e = bindings-of-at c bs h.1 i b e

bindings-in-at : (vs : List SimpleType) (bs : List Binding) → AreBindingsIn vs bs → (i : ℕ) (b : Binding) → slice_get bs i ≡ Some b → IsBindingIn vs b
bindings-in-at vs [] h i b e = absurd (cc)
bindings-in-at vs (x ∷ bs) h zero b e = let f : x ≡ b = cc in rw (← f) h.0
bindings-in-at vs (x ∷ bs) h (suc i) b e = bindings-in-at vs bs h.1 i b e

module _ {a b : Contents} (e : Extends a b) (s : declared_state.State) (h : IsStateOf a s) (bs : List declared_binding.Binding) (k : AreBindingsOf a bs) (m : AreBindingsIn (map (type_at a) s.vars) (map (binding_at a) bs)) (i : ℕ) (x : declared_binding.Binding) (l : i < length bs) (at : x ≡ slice_index_or bs i x) where
  found-binding : slice_get bs i ≡ Some x
  found-binding = get-at bs i x l at

  old-binding : IsBindingOf a x
  old-binding = bindings-of-at a bs k i x found-binding

  pub next-binding : IsBindingOf b x
  next-binding = binding-grows e x old-binding

  pub next-in : IsBindingIn (map (type_at b) s.vars) (binding_at b x)
  next-in = rw (types-kept e s.vars h.types_of, binding-kept e x old-binding) (bindings-in-at (map (type_at a) s.vars) (map (binding_at a) bs) m i (binding_at a x) (get-mapped (binding_at a) bs i x found-binding))

  module _ {c f : Contents} (g : Extends b c) (z : Extends c f) (depth w : ℕ) (next : declared_state.State) (v : (n o : ℕ) → state_at c next o ≡ with_binding (state_at b s n) o (binding_at b x)) (u : map type_of (map (tree_at c) next.terms) ≡ map type_of (map (tree_at b) s.terms)) (found more : List Sigma) (fs : AreSigmasOf b (map type_of (map (tree_at a) s.terms)) found) (q : Finds (w - length found) (state_at c next depth) (map (sigma_at f) more)) (r : AreSigmasOf f (map type_of (map (tree_at c) next.terms)) more) where
    kinds : map type_of (map (tree_at c) next.terms) ≡ map type_of (map (tree_at a) s.terms)
    kinds = u ∙ rw (trees-kept e s.terms h.terms_of) refl

    more-right : AreSigmasOf f (map type_of (map (tree_at a) s.terms)) more
    more-right = rw kinds at r

    pub all-sigmas : AreSigmasOf f (map type_of (map (tree_at a) s.terms)) (found ++ more)
    all-sigmas = sigmas-append f (map type_of (map (tree_at a) s.terms)) found more (sigmas-grow (extends-trans g z) (map type_of (map (tree_at a) s.terms)) found fs) more-right

    pub all-few : length found ≤ w → length (found ++ more) ≤ w
    all-few p =
        let n = finds-few (w - length found) (state_at c next depth) (map (sigma_at f) more) q in
        let y = length-map (sigma_at f) more in
        let o = length-append found more in
        omega arith

    pub all-found : (d : ℕ) → FindsAmong w (take i (map (with_binding (state_at a s d) depth) (map (binding_at a) bs))) (map (sigma_at b) found) → FindsAmong w (take (i + 1) (map (with_binding (state_at a s d) depth) (map (binding_at a) bs))) (map (sigma_at f) (found ++ more))
    all-found d p =
        let one : i + 1 ≡ suc i = omega arith in
        let t = take-at (map (with_binding (state_at a s d) depth) (map (binding_at a) bs)) i (with_binding (state_at a s d) depth (binding_at a x)) (get-mapped (with_binding (state_at a s d) depth) (map (binding_at a) bs) i (binding_at a x) (get-mapped (binding_at a) bs i x found-binding)) in
        let y : state_at c next depth ≡ with_binding (state_at a s d) depth (binding_at a x) = v d depth ∙ ap (λ (o : State). with_binding o depth (binding_at b x)) (state-kept e s h d) ∙ ap (with_binding (state_at a s d) depth) (binding-kept e x old-binding) in
        let kept : map (sigma_at f) found ≡ map (sigma_at b) found = sigmas-kept (extends-trans g z) (map type_of (map (tree_at a) s.terms)) found fs in
        let n : map (sigma_at f) (found ++ more) ≡ map (sigma_at b) found ++ map (sigma_at f) more = map-append (sigma_at f) found more ∙ ap (λ (o : List Solution). o ++ map (sigma_at f) more) kept in
        let j : length (map (sigma_at b) found) ≡ length found = length-map (sigma_at b) found in
        let last : Finds (w - length (map (sigma_at b) found)) (with_binding (state_at a s d) depth (binding_at a x)) (map (sigma_at f) more) = rw (j, ← y) q in
        rw (one, t, n) (among-end w (take i (map (with_binding (state_at a s d) depth) (map (binding_at a) bs))) (map (sigma_at b) found) (with_binding (state_at a s d) depth (binding_at a x)) (map (sigma_at f) more) p last)

pub all-taken : (s : State) (depth w : ℕ) (bs : List Binding) (n : ℕ) (xs : List Solution) → length bs ≤ n → FindsAmong w (take n (map (with_binding s depth) bs)) xs → FindsAmong w (map (with_binding s depth) bs) xs
all-taken s depth w bs n xs l f =
    let m = length-map (with_binding s depth) bs in
    subst (λ (zs : List State). FindsAmong w zs xs) (take-all (map (with_binding s depth) bs) n (omega arith)) f
