-- Places behind a path.
use Rattle.std.proofs.Common.{ℕ, ◌≡◌, ◌∙◌, ◌<◌, List, [], ◌∷◌, ◌++◌, append_assoc, length, map, refl, sym, ap}
use Rattle.std.proofs.lemmas.List.{append-nil, map-append}
use Rattle.leo_terms.specs.Tree.{Tree, variable, bound, symbol, app, lam, logic, absent}
use Rattle.leo_terms.specs.Typing.{IsPresent}
use Rattle.leo_terms.specs.Contents.{Contents, tree_at}
use Rattle.leo_para.specs.declared.spots.Spot.{Spot}
use Rattle.leo_para.specs.Places.{Place, argument_places, below_child, places, whole}
use Rattle.leo_para.specs.Reading.{AreSpotsOf, behind, place_at}

place : List ℕ → Tree → Place
place path t = record { path = path; term = t }

place-same : (p q : List ℕ) (t : Tree) → p ≡ q → place p t ≡ place q t
place-same p q t e = ap (λ r. place r t) e

behind-child : (path : List ℕ) (n : ℕ) (ps : List Place) → map (behind (path ++ n ∷ [])) ps ≡ map (behind path) (map (below_child n) ps)
unfolding place
behind-child path n [] = refl
behind-child path n (p ∷ ps) = rw (behind-child path n ps) (ap (λ (q : Place). q ∷ map (behind path) (map (below_child n) ps)) (place-same ((path ++ n ∷ []) ++ p.path) (path ++ n ∷ p.path) p.term (append_assoc path (n ∷ []) p.path)))

-- the places of two children
pub children-put : (path first second : List ℕ) (old middle new ps qs : List Place) → first ≡ path ++ 0 ∷ [] → second ≡ path ++ 1 ∷ [] → middle ≡ old ++ map (behind first) ps → new ≡ middle ++ map (behind second) qs → new ≡ old ++ map (behind path) (map (below_child 0) ps ++ map (below_child 1) qs)
children-put path first second old middle new ps qs e f g h =
    let p : middle ≡ old ++ map (behind path) (map (below_child 0) ps) = g ∙ ap (λ r. old ++ map (behind r) ps) e ∙ ap (λ (r : List Place). old ++ r) (behind-child path 0 ps) in
    let q : new ≡ middle ++ map (behind path) (map (below_child 1) qs) = h ∙ ap (λ r. middle ++ map (behind r) qs) f ∙ ap (λ (r : List Place). middle ++ r) (behind-child path 1 qs) in
    q ∙ ap (λ (r : List Place). r ++ map (behind path) (map (below_child 1) qs)) p ∙ append_assoc old (map (behind path) (map (below_child 0) ps)) (map (behind path) (map (below_child 1) qs)) ∙
    ap (λ (r : List Place). old ++ r) (sym (map-append (behind path) (map (below_child 0) ps) (map (below_child 1) qs)))

pub none-put : (old : List Place) → old ≡ old ++ []
none-put old = sym (append-nil old)

whole-present : (t : Tree) → IsPresent t → whole t ≡ place [] t ∷ []
unfolding place
whole-present (variable n a) h = refl
whole-present (bound i a) h = refl
whole-present (symbol s a) h = refl
whole-present (app f x) h = refl
whole-present (lam a t) h = refl
whole-present (logic c x y) h = refl
whole-present absent h = absurd h

-- a term, and behind it the places in its arguments
pub whole-put : (c : Contents) (path : List ℕ) (t : ℕ) (old middle : List Spot) (new : List Place) → IsPresent (tree_at c t) → middle ≡ old ++ (record { path = path; term = t }) ∷ [] → new ≡ map (place_at c) middle ++ map (behind path) (argument_places (tree_at c t)) → new ≡ map (place_at c) old ++ map (behind path) (places (tree_at c t))
unfolding place
whole-put c path t old middle new h e f =
    let s = tree_at c t in
    let a = argument_places s in
    let p : map (place_at c) middle ≡ map (place_at c) old ++ place path s ∷ [] = ap (map (place_at c)) e ∙ map-append (place_at c) old ((record { path = path; term = t }) ∷ []) in
    let q : place path s ∷ map (behind path) a ≡ map (behind path) (places s) = sym (ap (λ ws. map (behind path) (ws ++ a)) (whole-present s h) ∙ ap (λ (r : Place). r ∷ map (behind path) a) (place-same (path ++ []) path s (append-nil path))) in
    f ∙ ap (λ (r : List Place). r ++ map (behind path) a) p ∙ append_assoc (map (place_at c) old) (place path s ∷ []) (map (behind path) a) ∙ ap (λ (r : List Place). map (place_at c) old ++ r) q

pub spots-end : (c : Contents) (ss : List Spot) (path : List ℕ) (t : ℕ) → AreSpotsOf c ss → t < length c.terms → AreSpotsOf c (ss ++ (record { path = path; term = t }) ∷ [])
spots-end c [] path t h l = (l, tt)
spots-end c (s ∷ ss) path t h l = (h.0, spots-end c ss path t h.1 l)

behind-nothing : (ps : List Place) → map (behind []) ps ≡ ps
behind-nothing [] = refl
behind-nothing (p ∷ ps) = ap (λ (qs : List Place). p ∷ qs) (behind-nothing ps)

pub all-put : (old new : List Place) (ps : List Place) → old ≡ [] → new ≡ old ++ map (behind []) ps → new ≡ ps
all-put old new ps e f = f ∙ rw e (behind-nothing ps)
