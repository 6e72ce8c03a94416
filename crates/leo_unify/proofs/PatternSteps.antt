-- The steps of the calls that find patterns.
use Rattle.std.proofs.Common.{ℕ, nat_eq, nat_lt, ◌≡◌, ◌∙◌, ◌-◌, ◌<◌, ◌≤◌, Bool, List, [], ◌∷◌, ◌++◌, length, map, Option, Some, None, refl, arith}
use Rattle.std.specs.Bool.{if◌then◌else◌}
use Rattle.std.proofs.lemmas.List.{map-append}
use Rattle.std.proofs.lemmas.Bool.Decides.{nat_tests}
use Rattle.leo_terms.specs.Tree.{Tree, bound, app, type_of}
use Rattle.leo_terms.specs.NormalForm.{eta_long}
use Rattle.leo_terms.specs.Normal.{HasNormalForm}
use Rattle.leo_terms.specs.Contents.{Contents, IsBank, Extends, IsTerm, tree_at, type_at, type_number}
use Rattle.leo_terms.proofs.CallerLemmas.{old_bank, new_bank, type-kept, tree-kept, type_of-term}
use Rattle.leo_clause.specs.Typed.{AreTypesOf}
use Rattle.leo_clause.specs.Sameness.{same_tree}
use Rattle.leo_unify.specs.Patterns.{Pattern, index_at_head, long_index, new_index, pattern_before}
use Rattle.leo_unify.proofs.Growing.{types-kept, same-terms}

-- ---- the index of an eta-long form

pub long-none : (t : Tree) → None ≡ index_at_head 0 t → None ≡ long_index t
long-none t e = rw (← e) refl

pub long-some : {c d e : Contents} → Extends c d → Extends d e → (t : ℕ) → t < length c.terms → (i x n : ℕ) → Some i ≡ index_at_head 0 (tree_at c t) → IsTerm d x (type_number c t) (bound i (type_at c (type_number c t))) → HasNormalForm d e x n → (b : Bool) → b ≡ nat_eq t n → (if b then Some i else None) ≡ long_index (tree_at c t)
long-some {c} {d} {e} f g t l i x n h m r b q =
    let k = f.terms_more in
    let j = g.terms_more in
    let w : type_of (tree_at c t) ≡ type_at c (type_number c t) = type_of-term (old_bank f) t l in
    let v : tree_at e n ≡ eta_long (bound i (type_of (tree_at c t))) = r.value ∙ rw (m.reads, w) refl in
    let u : tree_at e t ≡ tree_at c t = tree-kept g t (omega arith) ∙ tree-kept f t l in
    let z : b ≡ same_tree (tree_at c t) (eta_long (bound i (type_of (tree_at c t)))) = q ∙ same-terms e (new_bank g) t n (omega arith) r.within ∙ rw (v, u) refl in
    rw (← h, z) refl

pub head-below : (i d : ℕ) → i < d → (if nat_lt i d then None else Some (i - d)) ≡ None
head-below i d l = grind (arith, nat_tests)

pub head-above : (i d : ℕ) → d ≤ i → (if nat_lt i d then None else Some (i - d)) ≡ Some (i - d)
head-above i d l = grind (arith, nat_tests)

-- ---- a pattern, from the last argument to the first

pub before-app : {c d : Contents} → Extends c d → (types order : List ℕ) (part f x i : ℕ) (whole : Option Pattern) → IsBank c → AreTypesOf c types → f < length c.terms → x < length c.terms → type_number c x < length c.types → tree_at c part ≡ app (tree_at c f) (tree_at c x) → Some i ≡ new_index order (tree_at c x) → pattern_before order (map (type_at c) types) (tree_at c part) ≡ whole → pattern_before (order ++ i ∷ []) (map (type_at d) (types ++ type_number c x ∷ [])) (tree_at d f) ≡ whole
before-app {c} {d} e types order part f x i whole b ts lf lx lt r n h =
    let s : map (type_at d) (types ++ type_number c x ∷ []) ≡ map (type_at c) types ++ type_of (tree_at c x) ∷ [] = map-append (type_at d) types (type_number c x ∷ []) ∙ rw (types-kept e types ts, type-kept e (type_number c x) lt, type_of-term b x lx) refl in
    let g : pattern_before order (map (type_at c) types) (app (tree_at c f) (tree_at c x)) ≡ whole = rw r at h in
    rw (s, tree-kept e f lf) (rw (← n) at g)

pub before-no_app : (c : Contents) (types order : List ℕ) (part f x : ℕ) (whole : Option Pattern) → tree_at c part ≡ app (tree_at c f) (tree_at c x) → None ≡ new_index order (tree_at c x) → pattern_before order (map (type_at c) types) (tree_at c part) ≡ whole → None ≡ whole
before-no_app c types order part f x whole r n h =
    let g : pattern_before order (map (type_at c) types) (app (tree_at c f) (tree_at c x)) ≡ whole = rw r at h in
    rw (← n) at g
