-- The steps of the search.
use Rattle.std.proofs.Common.{ℕ, zero, suc, ◌≡◌, ◌∙◌, ◌+◌, ◌<◌, ◌≤◌, true, false, List, [], ◌∷◌, ◌++◌, length, map, take, drop, slice_get, slice_index_or, Some, refl, arith}
use Rattle.leo_q0.specs.Terms.{SimpleType}
use Rattle.leo_terms.specs.Contents.{Contents, Extends, tree_at, type_at}
use Rattle.leo_terms.proofs.CallerLemmas.{old_bank, tree-kept, term-typed}
use Rattle.leo_unify.specs.declared.pairs.Pair as declared
use Rattle.leo_unify.specs.declared.state.State as declared_state
use Rattle.leo_unify.specs.Pairs.{Pair}
use Rattle.leo_unify.specs.Acts.{Act, stay, replace, bind, refuse, branch, act}
use Rattle.leo_unify.specs.Contexts.{IsPairIn, ArePairsIn, IsActIn}
use Rattle.leo_unify.specs.Search.{State, Step, rests, done, step_from, step_of}
use Rattle.leo_unify.specs.States.{state_at, IsStateOf}
use Rattle.leo_unify.specs.Views.{pair_at, stays}
use Rattle.leo_unify.proofs.Places.{get-at, get-mapped, drop-at, take-at, drop-all, length-map}
use Rattle.leo_unify.proofs.Growing.{types-kept, pairs-of-at}
use Rattle.leo_unify.proofs.GuessLemmas.{branching-in}
use Rattle.leo_unify.proofs.ActLemmas.{act-in}

-- ---- the first pair to which a case applies

done-other : (s : State) (a : Act) (before behind : List Pair) (x y : Step) → stays a ≡ false → done s a before behind x ≡ done s a before behind y
done-other s stay before behind x y e = absurd (cc)
done-other s (replace ps) before behind x y e = refl
done-other s (bind b) before behind x y e = refl
done-other s refuse before behind x y e = refl
done-other s (branch bs) before behind x y e = refl

done-stay : (s : State) (a : Act) (before behind : List Pair) (x : Step) → stays a ≡ true → done s a before behind x ≡ x
done-stay s stay before behind x e = refl
done-stay s (replace ps) before behind x e = absurd (cc)
done-stay s (bind b) before behind x e = absurd (cc)
done-stay s refuse before behind x e = absurd (cc)
done-stay s (branch bs) before behind x e = absurd (cc)

pairs-in-at : (vs : List SimpleType) (ps : List Pair) → ArePairsIn vs ps → (i : ℕ) (p : Pair) → slice_get ps i ≡ Some p → IsPairIn vs p
pairs-in-at vs [] h i p e = absurd (cc)
pairs-in-at vs (q ∷ ps) h zero p e = let f : q ≡ p = cc in rw (← f) h.0
pairs-in-at vs (q ∷ ps) h (suc i) p e = pairs-in-at vs ps h.1 i p e

module _ {a c : Contents} (e : Extends a c) (s : declared_state.State) (h : IsStateOf a s) (i : ℕ) (p : declared.Pair) (l : i < length s.pairs) (at : p ≡ slice_index_or s.pairs i p) where
  found-at : slice_get s.pairs i ≡ Some p
  found-at = get-at s.pairs i p l at

  of-bank : (p.left < length a.terms) × (p.right < length a.terms)
  of-bank = pairs-of-at a s.pairs h.pairs_of i p found-at

  pub left-of-bank : p.left < length c.terms
  left-of-bank = let k = of-bank.0 in let m = e.terms_more in omega arith

  pub right-of-bank : p.right < length c.terms
  right-of-bank = let k = of-bank.1 in let m = e.terms_more in omega arith

  pair-kept : pair_at c p ≡ pair_at a p
  pair-kept = rw (tree-kept e p.left of-bank.0, tree-kept e p.right of-bank.1) refl

  old-pair-in : IsPairIn (map (type_at a) s.vars) (pair_at a p)
  old-pair-in = pairs-in-at (map (type_at a) s.vars) (map (pair_at a) s.pairs) h.pairs_in i (pair_at a p) (get-mapped (pair_at a) s.pairs i p found-at)

  pub pair-is-in : IsPairIn (map (type_at c) s.vars) (pair_at c p)
  pair-is-in = rw (types-kept e s.vars h.types_of, pair-kept) old-pair-in

  module _ (d : ℕ) (o : Act) (v : o ≡ act (length s.vars) d (tree_at c p.left) (tree_at c p.right)) (q : step_of (state_at a s d) ≡ step_from (state_at a s d) (take i (map (pair_at a) s.pairs)) (drop i (map (pair_at a) s.pairs))) where
    act-is : o ≡ act (length (map (type_at a) s.vars)) d (tree_at a p.left) (tree_at a p.right)
    act-is = v ∙ rw (length-map (type_at a) s.vars, tree-kept e p.left of-bank.0, tree-kept e p.right of-bank.1) refl

    step-is : step_of (state_at a s d) ≡ done (state_at a s d) o (take i (map (pair_at a) s.pairs)) (drop (suc i) (map (pair_at a) s.pairs)) (step_from (state_at a s d) (take i (map (pair_at a) s.pairs) ++ pair_at a p ∷ []) (drop (suc i) (map (pair_at a) s.pairs)))
    step-is =
        let w = drop-at (map (pair_at a) s.pairs) i (pair_at a p) (get-mapped (pair_at a) s.pairs i p found-at) in
        rw act-is (rw w at q)

    pub work-found : stays o ≡ false → step_of (state_at a s d) ≡ done (state_at a s d) o (take i (map (pair_at a) s.pairs)) (drop (i + 1) (map (pair_at a) s.pairs)) rests
    work-found t =
        let one : i + 1 ≡ suc i = omega arith in
        rw one (step-is ∙ done-other (state_at a s d) o (take i (map (pair_at a) s.pairs)) (drop (suc i) (map (pair_at a) s.pairs)) _ rests t)

    pub work-next : stays o ≡ true → step_of (state_at a s d) ≡ step_from (state_at a s d) (take (i + 1) (map (pair_at a) s.pairs)) (drop (i + 1) (map (pair_at a) s.pairs))
    work-next t =
        let one : i + 1 ≡ suc i = omega arith in
        let u = take-at (map (pair_at a) s.pairs) i (pair_at a p) (get-mapped (pair_at a) s.pairs i p found-at) in
        rw (one, u) (step-is ∙ done-stay (state_at a s d) o (take i (map (pair_at a) s.pairs)) (drop (suc i) (map (pair_at a) s.pairs)) _ t)

    pub act-is-in : IsActIn (map (type_at a) s.vars) o
    act-is-in =
        let v = term-typed (old_bank e) p.left of-bank.0 in
        let w = term-typed (old_bank e) p.right of-bank.1 in
        rw act-is
        (act-in (map (type_at a) s.vars) (length (map (type_at a) s.vars)) d (tree_at a p.left) (tree_at a p.right) v w old-pair-in
        (branching-in (map (type_at a) s.vars) d old-pair-in.depth (tree_at a p.left) (tree_at a p.right) v w old-pair-in.left_over old-pair-in.right_over old-pair-in.same_type))

pub work-none : (a : Contents) (s : declared_state.State) (d i : ℕ) → length s.pairs ≤ i → step_of (state_at a s d) ≡ step_from (state_at a s d) (take i (map (pair_at a) s.pairs)) (drop i (map (pair_at a) s.pairs)) → step_of (state_at a s d) ≡ rests
work-none a s d i l q =
    let m = length-map (pair_at a) s.pairs in
    let w : drop i (map (pair_at a) s.pairs) ≡ [] = drop-all (map (pair_at a) s.pairs) i (omega arith) in
    rw w at q
