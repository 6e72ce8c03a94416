-- Types have one place among those that were met.
use Rattle.std.proofs.Common.{ℕ, ◌≡◌, true, List, arith, rules, nat_eq}
use Rattle.std.proofs.lemmas.Bool.Decides.{nat_tests}
use Rattle.leo_q0.specs.Terms.{SimpleType, base, arrow}
use Rattle.leo_terms.specs.Contents.{IsShared, IsKept}
use Rattle.leo_tstp.specs.declared.reading.trees.TypeNode.{TypeNode}
use Rattle.leo_tstp.specs.declared.reading.trees.TypeNode.TheVariants as node
use Rattle.leo_tstp.specs.declared.reading.lexicon.Lexicon.{Lexicon}
use Rattle.leo_tstp.specs.declared.reading.patterns.Pattern.{Pattern, Any, «Type», Function'}
use Rattle.leo_tstp.specs.contracts.reading.trees.TypeNodePartialEq.TheImpl.{ghosts}
use Rattle.leo_tstp.specs.Vocabulary.{Vocabulary}
use Rattle.leo_tstp.specs.Places.{IsPlace, Fits}

pub node_same : (a b : TypeNode) → ghosts.eq a b ≡ true → a ≡ b
node_same a b h = search rules

pub node_itself : (a : TypeNode) → ghosts.eq a a ≡ true
node_itself (node.Base p) = grind (arith, nat_tests)
node_itself (node.Arrow p q) = grind (arith, nat_tests)

pub one-place : (v : Vocabulary) (l : Lexicon) (ns : List TypeNode) (a : SimpleType) (p q : ℕ) → IsShared ns → IsPlace v l ns a p → IsPlace v l ns a q → p ≡ q
one-place v l ns (base b) p q s h k = cc
one-place v l ns (arrow a b) p q s h k =
    let e = one-place v l ns a h.0 k.0 s h.3 k.3 in
    let f = one-place v l ns b h.1 k.1 s h.4 k.4 in
    s p q (node.Arrow h.0 h.1) h.2 (rw (e, f) k.2)

pub place-kept : (v : Vocabulary) (l : Lexicon) (ns ms : List TypeNode) (a : SimpleType) (p : ℕ) → IsKept ns ms → IsPlace v l ns a p → IsPlace v l ms a p
place-kept v l ns ms (base b) p k h = h
place-kept v l ns ms (arrow a b) p k h = (h.0, h.1, k p _ h.2, place-kept v l ns ms a h.0 k h.3, place-kept v l ns ms b h.1 k h.4)

pub fits-kept : (v : Vocabulary) (l : Lexicon) (ns ms : List TypeNode) (f : Pattern) (a : SimpleType) → IsKept ns ms → Fits v l ns f a → Fits v l ms f a
fits-kept v l ns ms Any a k h = h
fits-kept v l ns ms («Type» p) a k h = place-kept v l ns ms a p k h
fits-kept v l ns ms (Function' p f q g) (base b) k h = h
fits-kept v l ns ms (Function' p f q g) (arrow a b) k h = (fits-kept v l ns ms f a k h.0, fits-kept v l ns ms g b k h.1)

pub same-place : (v : Vocabulary) (l : Lexicon) (ns : List TypeNode) (f : Pattern) (a : SimpleType) (w p : ℕ) → f ≡ «Type» w → IsShared ns → IsPlace v l ns a p → Fits v l ns f a → nat_eq w p ≡ true
same-place v l ns f a w p e s h k =
    let fits = rw e at k in
    let same : w ≡ p = one-place v l ns a w p s fits h in
    grind (arith, nat_tests)
