-- Equal lists of nodes.
use Rattle.std.proofs.Common.{◌≡◌, Bool, true, false, ◌&&◌, List, [], ◌∷◌, refl, rules}
use Rattle.std.specs.Cmp.Lexicographic.{pointwise}
use Rattle.fo_terms.specs.declared.term.FoNode.{FoNode}
use Rattle.fo_terms.specs.contracts.term.FoNodePartialEq.TheImpl.{ghosts}

node_same : (a b : FoNode) → ghosts.eq a b ≡ true → a ≡ b
node_same a b h = search rules

node_refl : (a : FoNode) → ghosts.eq a a ≡ true
node_refl a = search rules

and_parts : (a b : Bool) → (a && b) ≡ true → (a ≡ true) × (b ≡ true)
and_parts true b h = (refl, h)
and_parts false b h = absurd cc

pub nodes_same : (xs ys : List FoNode) → pointwise ghosts.eq xs ys ≡ true → xs ≡ ys
nodes_same [] [] h = refl
nodes_same [] (y ∷ ys) h = absurd cc
nodes_same (x ∷ xs) [] h = absurd cc
nodes_same (x ∷ xs) (y ∷ ys) h =
    let p = and_parts (ghosts.eq x y) (pointwise ghosts.eq xs ys) h in
    rw (node_same x y p.0, nodes_same xs ys p.1) refl

pub nodes_refl : (xs : List FoNode) → pointwise ghosts.eq xs xs ≡ true
nodes_refl [] = refl
nodes_refl (x ∷ xs) = rw (node_refl x) (nodes_refl xs)
