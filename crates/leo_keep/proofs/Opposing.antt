-- Literals that oppose each other.
use Rattle.std.proofs.Common.{ℕ, zero, suc, nat_eq, ◌≡◌, ◌∙◌, ◌<◌, ◌≤◌, Bool, true, false, not, List, [], ◌∷◌, length, map, slice_get, Some, refl, sym, ap, subst, arith, ◌⊎◌, inl, inr}
use Rattle.std.specs.Bool.{Decides}
use Rattle.std.proofs.lemmas.Bool.Decides.{nat_tests}
use Rattle.leo_terms.specs.Tree.{Tree}
use Rattle.leo_terms.specs.Contents.{Contents, IsBank, tree_at}
use Rattle.leo_terms.proofs.CallerLemmas.{term-shared}
use Rattle.leo_clause.specs.declared.clause.Lit.{Lit}
use Rattle.leo_clause.specs.Trees.{Literal, literal_at}
use Rattle.leo_clause.specs.Typed.{AreLiteralsOf}
use Rattle.leo_keep.specs.Tautologies.{equal, unequal, true_tree, false_tree, HoldsWith, reflexive, opposed, IsOpposed, IsTautology, Opposes, negated, turned, valued}
use Rattle.leo_keep.specs.Matching.{HaveSameSides}
use Rattle.leo_keep.proofs.Numbers.{get-mapped, get-from_map, NoneBelow, none-all, refuted}

lit : Bool → Tree → Tree → Literal
lit p s t = record { positive = p; left = s; right = t }

lit-same : (p q : Bool) (s t u v : Tree) → p ≡ q → s ≡ u → t ≡ v → lit p s t ≡ lit q u v
lit-same p q s t u v e f g = rw (e, f, g) refl

literal-same : (l k : Literal) → l.positive ≡ k.positive → l.left ≡ k.left → l.right ≡ k.right → l ≡ k
unfolding lit
literal-same l k e f g = lit-same l.positive k.positive l.left l.right k.left k.right e f g

opposes-like : (l k m n : Literal) → l ≡ m → k ≡ n → Opposes m n → Opposes l k
opposes-like l k m n e f h = subst (λ (x : Literal). Opposes x k) (sym e) (subst (λ (x : Literal). Opposes m x) (sym f) h)

-- how literals that oppose each other look
abbrev SidesMeet : Literal → Literal → Type 0
SidesMeet l k = ((l.left ≡ k.left) × (l.right ≡ k.right)) ⊎ ((l.left ≡ k.right) × (l.right ≡ k.left))

record AreValues (l k : Literal) : Type 0 where
  pub lefts : l.left ≡ k.left
  pub first : l.right ≡ true_tree
  pub second : k.right ≡ false_tree

positive-first : (l k : Literal) → Opposes l k → l.positive ≡ true
positive-first _ _ (negated s t) = refl
positive-first _ _ (turned s t) = refl
positive-first _ _ (valued s) = refl

when-negative : (l k : Literal) → Opposes l k → k.positive ≡ false → SidesMeet l k
when-negative _ _ (negated s t) e = inl (refl, refl)
when-negative _ _ (turned s t) e = inr (refl, refl)
when-negative _ _ (valued s) e = absurd (let f : ⊥ = cc in f)

when-positive : (l k : Literal) → Opposes l k → k.positive ≡ true → AreValues l k
when-positive _ _ (negated s t) e = absurd (let f : ⊥ = cc in f)
when-positive _ _ (turned s t) e = absurd (let f : ⊥ = cc in f)
when-positive _ _ (valued s) e = record { lefts = refl; first = refl; second = refl }

negated-meet : (l k : Literal) → l.positive ≡ true → k.positive ≡ false → SidesMeet l k → Opposes l k
negated-meet l k e f (inl h) = opposes-like l k (equal k.left k.right) (unequal k.left k.right) (literal-same l (equal k.left k.right) e h.0 h.1) (literal-same k (unequal k.left k.right) f refl refl) (negated k.left k.right)
negated-meet l k e f (inr h) = opposes-like l k (equal k.right k.left) (unequal k.left k.right) (literal-same l (equal k.right k.left) e h.0 h.1) (literal-same k (unequal k.left k.right) f refl refl) (turned k.right k.left)

values-oppose : (l k : Literal) → l.positive ≡ true → k.positive ≡ true → AreValues l k → Opposes l k
values-oppose l k e f h = opposes-like l k (equal k.left true_tree) (equal k.left false_tree) (literal-same l (equal k.left true_tree) e h.lefts h.first) (literal-same k (equal k.left false_tree) f refl h.second) (valued k.left)

-- the tests on literals of a bank
module _ (c : Contents) (b : IsBank c) (l k : Lit) (p : l.left < length c.terms) (q : l.right < length c.terms) (r : k.left < length c.terms) (s : k.right < length c.terms) where
  sides-meet : SidesMeet (literal_at c l) (literal_at c k) → HaveSameSides l k
  sides-meet (inl h) = inl (term-shared b l.left k.left p r h.0, term-shared b l.right k.right q s h.1)
  sides-meet (inr h) = inr (term-shared b l.left k.right p s h.0, term-shared b l.right k.left q r h.1)

  meet-sides : HaveSameSides l k → SidesMeet (literal_at c l) (literal_at c k)
  meet-sides (inl h) = inl (ap (tree_at c) h.0, ap (tree_at c) h.1)
  meet-sides (inr h) = inr (ap (tree_at c) h.0, ap (tree_at c) h.1)

  pub denied : (x : Bool) → l.pos ≡ true → k.pos ≡ false → Decides x (HaveSameSides l k) → Decides x (Opposes (literal_at c l) (literal_at c k))
  denied x e f d = (
    λ t. negated-meet (literal_at c l) (literal_at c k) e f (meet-sides (d.0 t)),
    λ h. d.1 (sides-meet (when-negative (literal_at c l) (literal_at c k) h f)),
  )

pub apart : (c : Contents) (b : IsBank c) (l k : Lit) → l.left < length c.terms → k.left < length c.terms → (x : Bool) → k.pos ≡ true → x ≡ not (nat_eq l.left k.left) → x ≡ true → Opposes (literal_at c l) (literal_at c k) → ⊥
apart c b l k p r x f e t h =
    let v = when-positive (literal_at c l) (literal_at c k) h f in
    unlike l.left k.left (sym e ∙ t) (term-shared b l.left k.left p r v.lefts)
  where
    unlike : (m n : ℕ) → not (nat_eq m n) ≡ true → m ≡ n → ⊥
    unlike m n e g = grind (arith, nat_tests)

pub same-lefts : (l k : Lit) (x : Bool) → x ≡ not (nat_eq l.left k.left) → x ≡ false → l.left ≡ k.left
same-lefts l k x e f = like l.left k.left (sym e ∙ f)
  where
    like : (m n : ℕ) → not (nat_eq m n) ≡ false → m ≡ n
    like m n e = grind (arith, nat_tests)

pub unopposing : (c : Contents) (l k : Lit) → l.pos ≡ false → Opposes (literal_at c l) (literal_at c k) → ⊥
unopposing c l k e h = (let f : l.pos ≡ true = positive-first (literal_at c l) (literal_at c k) h in cc)

pub no-truth : (c : Contents) (l k : Lit) (x : Bool) → k.pos ≡ true → Decides x (tree_at c l.right ≡ true_tree) → x ≡ false → Opposes (literal_at c l) (literal_at c k) → ⊥
no-truth c l k x f d e h = refuted x d e (when-positive (literal_at c l) (literal_at c k) h f).first

pub truths : (c : Contents) (l k : Lit) (x y : Bool) → l.pos ≡ true → k.pos ≡ true → l.left ≡ k.left → Decides x (tree_at c l.right ≡ true_tree) → x ≡ true → Decides y (tree_at c k.right ≡ false_tree) → Decides y (Opposes (literal_at c l) (literal_at c k))
truths c l k x y e f g d t u = (
  λ v. values-oppose (literal_at c l) (literal_at c k) e f (record { lefts = ap (tree_at c) g; first = d.0 t; second = u.0 v }),
  λ h. u.1 (when-positive (literal_at c l) (literal_at c k) h f).second,
)

-- literals of a list
pub literals-at : (c : Contents) (ls : List Lit) → AreLiteralsOf c ls → (i : ℕ) (l : Lit) → slice_get ls i ≡ Some l → (l.left < length c.terms) × (l.right < length c.terms)
literals-at c [] h i l e = absurd (let f : ⊥ = cc in f)
literals-at c (k ∷ ls) h zero l e = let f : k ≡ l = cc in rw (← f) (h.0, h.1)
literals-at c (k ∷ ls) h (suc i) l e = literals-at c ls h.2 i l e

pub opposed-at : (c : Contents) (l : Lit) (ks : List Lit) (i : ℕ) (k : Lit) → slice_get ks i ≡ Some k → Opposes (literal_at c l) (literal_at c k) → IsOpposed (literal_at c l) (map (literal_at c) ks)
opposed-at c l ks i k e h = record { place = i; other = literal_at c k; stands = get-mapped (literal_at c) ks i k e; opposes = h }

pub opposed-nowhere : (c : Contents) (l : Lit) (ks : List Lit) (n : ℕ) → NoneBelow (λ (k : Lit). Opposes (literal_at c l) (literal_at c k)) ks n → length ks ≤ n → IsOpposed (literal_at c l) (map (literal_at c) ks) → ⊥
opposed-nowhere c l ks n h m o =
    let g = get-from_map (literal_at c) ks o.place o.other o.stands in
    none-all (λ (k : Lit). Opposes (literal_at c l) (literal_at c k)) ks n h m o.place g.0 g.1 (subst (λ (x : Literal). Opposes (literal_at c l) x) (sym g.2) o.opposes)

-- a literal that always holds with others
pub holds-reflexive : (c : Contents) (l : Lit) (ks : List Literal) → l.pos ≡ true → l.left ≡ l.right → HoldsWith (literal_at c l) ks
holds-reflexive c l ks e f = reflexive (tree_at c l.right) (literal-same (literal_at c l) (equal (tree_at c l.right) (tree_at c l.right)) e (ap (tree_at c) f) refl)

holds-parts : (c : Contents) (b : IsBank c) (l : Lit) (ks : List Literal) → l.left < length c.terms → l.right < length c.terms → HoldsWith (literal_at c l) ks → ((l.pos ≡ true) × (l.left ≡ l.right)) ⊎ IsOpposed (literal_at c l) ks
holds-parts c b l ks p q (reflexive s e) = inl (ap (λ (x : Literal). x.positive) e, term-shared b l.left l.right p q (ap (λ (x : Literal). x.left) e ∙ sym (ap (λ (x : Literal). x.right) e)))
holds-parts c b l ks p q (opposed o) = inr o

pub holds-opposed : (c : Contents) (b : IsBank c) (l : Lit) (ks : List Literal) → l.left < length c.terms → l.right < length c.terms → (l.pos ≡ true → l.left ≡ l.right → ⊥) → (r : Bool) → Decides r (IsOpposed (literal_at c l) ks) → Decides r (HoldsWith (literal_at c l) ks)
holds-opposed c b l ks p q f r d = (
  λ t. opposed (d.0 t),
  λ h. elim (holds-parts c b l ks p q h) [ inl g ↦ absurd (f g.0 g.1) | inr o ↦ d.1 o ],
)

-- all literals
pub tautology-at : (c : Contents) (ls : List Lit) (i : ℕ) (l : Lit) → slice_get ls i ≡ Some l → HoldsWith (literal_at c l) (map (literal_at c) ls) → IsTautology (map (literal_at c) ls)
tautology-at c ls i l e h = record { place = i; literal = literal_at c l; stands = get-mapped (literal_at c) ls i l e; holds = h }

pub tautology-nowhere : (c : Contents) (ls : List Lit) (n : ℕ) → NoneBelow (λ (l : Lit). HoldsWith (literal_at c l) (map (literal_at c) ls)) ls n → length ls ≤ n → IsTautology (map (literal_at c) ls) → ⊥
tautology-nowhere c ls n h m o =
    let g = get-from_map (literal_at c) ls o.place o.literal o.stands in
    none-all (λ (l : Lit). HoldsWith (literal_at c l) (map (literal_at c) ls)) ls n h m o.place g.0 g.1 (subst (λ (x : Literal). HoldsWith x (map (literal_at c) ls)) (sym g.2) o.holds)
