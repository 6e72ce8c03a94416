-- What a split adds to the choice symbols.
use Rattle.std.proofs.Common.{ℕ, zero, suc, ◌≡◌, ◌∙◌, ◌-◌, ◌≤◌, List, [], ◌∷◌, ◌++◌, length, map, slice_get, Some, refl, sym, ap, subst, append-nil, arith}
use Rattle.std.proofs.lemmas.List.{append_assoc}
use Rattle.leo_terms.specs.Tree.{Tree}
use Rattle.leo_terms.specs.Contents.{Contents, Extends, tree_at}
use Rattle.leo_terms.proofs.CallerLemmas.{new_bank, term-shared, tree-kept}
use Rattle.leo_clause.specs.Choices.{AreChoicesOf, Choice, choice_at}
use Rattle.leo_clause.specs.Trees.{Literal, ClauseTree}
use Rattle.leo_clausify.specs.Choosing.{Chooses, earliest, added}
use Rattle.leo_clausify.specs.Forms.{Form}
use Rattle.leo_clausify.specs.Splitting.{Becomes, turns, omits, takes_apart, chooses, Splits, leaf, one, two, Overflows, too_many, of_one, first_of_two, second_of_two}
use Rattle.leo_clausify.proofs.Banks.{within-grow}
use Rattle.leo_turn.specs.Growth.{IsLonger}

-- the numbers are none of those below `known`
pub AreHigh : ℕ → List Choice → Type 0
AreHigh known [] = Unit {0}
AreHigh known (k ∷ ks) = (known ≤ k.number) × AreHigh known ks

high-both : (known : ℕ) (ks js : List Choice) → AreHigh known ks → AreHigh known js → AreHigh known (ks ++ js)
unfolding AreHigh
high-both known [] js h g = g
high-both known (k ∷ ks) js h g = (h.0, high-both known ks js h.1 g)

pub high-at : (known : ℕ) (ks : List Choice) (n : ℕ) (k : Choice) → AreHigh known ks → slice_get ks n ≡ Some k → known ≤ k.number
unfolding AreHigh
high-at known [] n k h e = absurd cc
high-at known (j ∷ ks) zero k h e = let f : j ≡ k = cc in subst (λ (i : Choice). known ≤ i.number) f h.0
high-at known (j ∷ ks) (suc n) k h e = high-at known ks n k h.1 e

-- the choice symbols that stand, and new ones behind them
pub record AreMore (known : ℕ) (choices later : List Choice) : Type 0 where
  pub more : List Choice
  pub is : later ≡ choices ++ more
  pub high : AreHigh known more

pub more-none : (known : ℕ) (choices : List Choice) → AreMore known choices choices
unfolding AreHigh
more-none known choices = record { more = []; is = sym (append-nil choices); high = tt }

pub more-trans : (known : ℕ) (a b c : List Choice) → AreMore known a b → AreMore known b c → AreMore known a c
more-trans known a b c g h = record { more = g.more ++ h.more; is = h.is ∙ ap (λ (ks : List Choice). ks ++ h.more) g.is ∙ append_assoc a g.more h.more; high = high-both known g.more h.more g.high h.high }

pub chosen-more : (known : ℕ) (choices later : List Choice) (t : Tree) (n : ℕ) (k : Choice) → Chooses known choices t later n k → AreMore known choices later
unfolding AreHigh
chosen-more known choices later t n k (earliest m j e f g) = more-none known choices
chosen-more known choices later t n k (added j e f g h) = record { more = j ∷ []; is = refl; high = (f, tt) }

becomes-more : (known : ℕ) (choices later : List Choice) (c d : ClauseTree) (i : ℕ) (l : Literal) (f : Form) → Becomes known choices c i l f later d → AreMore known choices later
becomes-more known choices later c d i l f turns = more-none known choices
becomes-more known choices later c d i l f omits = more-none known choices
becomes-more known choices later c d i l f (takes_apart kind fresh new t) = more-none known choices
becomes-more known choices later c d i l f (chooses kind claim then n k p q) = chosen-more known choices later _ n k q

pub splits-more : (known room : ℕ) (choices later : List Choice) (c : ClauseTree) (leaves : List ClauseTree) → Splits known room choices c later leaves → AreMore known choices later
splits-more known room choices later c leaves (leaf r ks d h) = more-none known choices
splits-more known room choices later c leaves (one r a m z k d i l f ls first forms b s) = more-trans known choices m later (becomes-more known choices m c d i l f b) (splits-more known room m later d leaves s)
splits-more known room choices later c leaves (two r a m1 m m2 z k d e i l f g ls more first forms b s b2 s2) =
    more-trans known choices m1 later (becomes-more known choices m1 c d i l f b)
    (more-trans known m1 m later (splits-more known room m1 m d ls s)
    (more-trans known m m2 later (becomes-more known m m2 c e i l g b2) (splits-more known (room - length ls) m2 later e more s2)))

-- fewer numbers are those of earlier symbols
module _ (low known : ℕ) (below : low ≤ known) where
  chosen-weaker : (choices later : List Choice) (t : Tree) (n : ℕ) (k : Choice) → Chooses known choices t later n k → Chooses low choices t later n k
  chosen-weaker choices later t n k (earliest m j e f g) = earliest m j e f g
  chosen-weaker choices later t n k (added j e f g h) = added j e (omega arith) g h

  becomes-weaker : (choices later : List Choice) (c d : ClauseTree) (i : ℕ) (l : Literal) (f : Form) → Becomes known choices c i l f later d → Becomes low choices c i l f later d
  becomes-weaker choices later c d i l f turns = turns
  becomes-weaker choices later c d i l f omits = omits
  becomes-weaker choices later c d i l f (takes_apart kind fresh new t) = takes_apart kind fresh new t
  becomes-weaker choices later c d i l f (chooses kind claim then n k p q) = chooses kind claim then n k p (chosen-weaker choices later _ n k q)

  pub splits-weaker : (room : ℕ) (choices later : List Choice) (c : ClauseTree) (leaves : List ClauseTree) → Splits known room choices c later leaves → Splits low room choices c later leaves
  splits-weaker room choices later c leaves (leaf r ks d h) = leaf r ks d h
  splits-weaker room choices later c leaves (one r a m z k d i l f ls first forms b s) = one r a m z k d i l f ls first forms (becomes-weaker choices m c d i l f b) (splits-weaker room m later d leaves s)
  splits-weaker room choices later c leaves (two r a m1 m m2 z k d e i l f g ls more first forms b s b2 s2) =
      two r a m1 m m2 z k d e i l f g ls more first forms (becomes-weaker choices m1 c d i l f b) (splits-weaker room m1 m d ls s) (becomes-weaker m m2 c e i l g b2) (splits-weaker (room - length ls) m2 later e more s2)

  pub overflows-weaker : (room : ℕ) (choices : List Choice) (c : ClauseTree) → Overflows known room choices c → Overflows low room choices c
  overflows-weaker room choices c (too_many ks d h) = too_many ks d h
  overflows-weaker room choices c (of_one r a m k d i l f first forms b o) = of_one r a m k d i l f first forms (becomes-weaker choices m c d i l f b) (overflows-weaker room m d o)
  overflows-weaker room choices c (first_of_two r a m k d i l f g first forms b o) = first_of_two r a m k d i l f g first forms (becomes-weaker choices m c d i l f b) (overflows-weaker room m d o)
  overflows-weaker room choices c (second_of_two r a m1 m m2 k d e i l f g ls first forms b s b2 o) =
      second_of_two r a m1 m m2 k d e i l f g ls first forms (becomes-weaker choices m1 c d i l f b) (splits-weaker room m1 m d ls s) (becomes-weaker m m2 c e i l g b2) (overflows-weaker (room - length ls) m2 e o)

-- the items of a bank that grew begin with those that were there
head-same : {X : Type 0} (x y : X) (xs ys : List X) → x ∷ xs ≡ y ∷ ys → (x ≡ y) × (xs ≡ ys)
head-same x y xs ys e = (cc, cc)

pub items-longer : {c d : Contents} → Extends c d → (is js : List (ℕ × ℕ)) (more : List Choice) → AreChoicesOf c is → AreChoicesOf d js → map (choice_at d) js ≡ map (choice_at c) is ++ more → IsLonger is js
items-longer {c} {d} e [] js more h g f = record { more = js; is = refl }
items-longer {c} {d} e (i ∷ is) [] more h g f = absurd cc
items-longer {c} {d} e (i ∷ is) (j ∷ js) more h g f =
    let p = head-same (choice_at d j) (choice_at c i) (map (choice_at d) js) (map (choice_at c) is ++ more) f in
    let w = (h zero i refl).term_within in
    let u = (g zero j refl).term_within in
    let number : j.0 ≡ i.0 = ap (λ (k : Choice). k.number) p.0 in
    let reads : tree_at d j.1 ≡ tree_at d i.1 = ap (λ (k : Choice). k.term) p.0 ∙ sym (tree-kept e i.1 w) in
    let term : j.1 ≡ i.1 = term-shared (new_bank e) j.1 i.1 u (within-grow e i.1 w) reads in
    let same : j ≡ i = pair j i number term in
    let rest = items-longer e is js more (λ n k x. h (suc n) k x) (λ n k x. g (suc n) k x) p.1 in
    record { more = rest.more; is = ap (λ (k : ℕ × ℕ). k ∷ js) same ∙ ap (λ (ks : List (ℕ × ℕ)). i ∷ ks) rest.is }
  where
    pair : (j i : ℕ × ℕ) → j.0 ≡ i.0 → j.1 ≡ i.1 → j ≡ i
    pair (a, b) (x, y) n t = rw (n, t) refl
