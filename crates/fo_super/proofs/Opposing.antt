-- Literals that oppose each other.
use Rattle.std.proofs.Common.{ℕ, ◌≡◌, Bool, true, false, List, slice_get, Some, refl, sym, subst, ◌⊎◌, inl, inr, ◌≤◌, length}
use Rattle.std.specs.Bool.{Decides}
use Rattle.fo_terms.specs.Terms.{Term}
use Rattle.fo_text.specs.declared.problem.FoLit.{FoLit}
use Rattle.fo_super.specs.Matching.{HaveSameSides}
use Rattle.fo_super.specs.Tautologies.{equal, unequal, true_term, false_term, HoldsWith, reflexive, opposed, IsOpposed, IsTautology, Opposes, negated, turned, valued}
use Rattle.fo_super.proofs.Answering.{NoneBelow, none-all}

lit : Bool → Term → Term → FoLit
lit p s t = record { pos = p; left = s; right = t }

lit-same : (p q : Bool) (s t u v : Term) → p ≡ q → s ≡ u → t ≡ v → lit p s t ≡ lit q u v
lit-same p q s t u v e f g = rw (e, f, g) refl

pub literal-same : (l k : FoLit) → l.pos ≡ k.pos → l.left ≡ k.left → l.right ≡ k.right → l ≡ k
unfolding lit
literal-same l k e f g = lit-same l.pos k.pos l.left l.right k.left k.right e f g

opposes-like : (l k m n : FoLit) → l ≡ m → k ≡ n → Opposes m n → Opposes l k
opposes-like l k m n e f h = subst (λ (x : FoLit). Opposes x k) (sym e) (subst (λ (x : FoLit). Opposes m x) (sym f) h)

-- how literals that oppose each other look
record AreValues (l k : FoLit) : Type 0 where
  pub lefts : l.left ≡ k.left
  pub first : l.right ≡ true_term
  pub second : k.right ≡ false_term

positive-first : (l k : FoLit) → Opposes l k → l.pos ≡ true
positive-first _ _ (negated s t) = refl
positive-first _ _ (turned s t) = refl
positive-first _ _ (valued s) = refl

when-negative : (l k : FoLit) → Opposes l k → k.pos ≡ false → HaveSameSides l k
when-negative _ _ (negated s t) e = inl (refl, refl)
when-negative _ _ (turned s t) e = inr (refl, refl)
when-negative _ _ (valued s) e = absurd (let f : ⊥ = cc in f)

when-positive : (l k : FoLit) → Opposes l k → k.pos ≡ true → AreValues l k
when-positive _ _ (negated s t) e = absurd (let f : ⊥ = cc in f)
when-positive _ _ (turned s t) e = absurd (let f : ⊥ = cc in f)
when-positive _ _ (valued s) e = record { lefts = refl; first = refl; second = refl }

negated-meet : (l k : FoLit) → l.pos ≡ true → k.pos ≡ false → HaveSameSides l k → Opposes l k
negated-meet l k e f (inl h) = opposes-like l k (equal k.left k.right) (unequal k.left k.right) (literal-same l (equal k.left k.right) e h.0 h.1) (literal-same k (unequal k.left k.right) f refl refl) (negated k.left k.right)
negated-meet l k e f (inr h) = opposes-like l k (equal k.right k.left) (unequal k.left k.right) (literal-same l (equal k.right k.left) e h.0 h.1) (literal-same k (unequal k.left k.right) f refl refl) (turned k.right k.left)

values-oppose : (l k : FoLit) → l.pos ≡ true → k.pos ≡ true → AreValues l k → Opposes l k
values-oppose l k e f h = opposes-like l k (equal k.left true_term) (equal k.left false_term) (literal-same l (equal k.left true_term) e h.lefts h.first) (literal-same k (equal k.left false_term) f refl h.second) (valued k.left)

-- the tests
pub denied : (l k : FoLit) (x : Bool) → l.pos ≡ true → k.pos ≡ false → Decides x (HaveSameSides l k) → Decides x (Opposes l k)
denied l k x e f d = (λ t. negated-meet l k e f (d.0 t), λ h. d.1 (when-negative l k h f))

pub unopposing : (l k : FoLit) → l.pos ≡ false → Opposes l k → ⊥
unopposing l k e h = (let f : l.pos ≡ true = positive-first l k h in cc)

pub apart : (l k : FoLit) → k.pos ≡ true → (l.left ≡ k.left → ⊥) → Opposes l k → ⊥
apart l k f g h = g (when-positive l k h f).lefts

pub no-truth : (l k : FoLit) → k.pos ≡ true → (l.right ≡ true_term → ⊥) → Opposes l k → ⊥
no-truth l k f g h = g (when-positive l k h f).first

pub truths : (l k : FoLit) (y : Bool) → l.pos ≡ true → k.pos ≡ true → l.left ≡ k.left → l.right ≡ true_term → Decides y (k.right ≡ false_term) → Decides y (Opposes l k)
truths l k y e f g t u = (λ v. values-oppose l k e f (record { lefts = g; first = t; second = u.0 v }), λ h. u.1 (when-positive l k h f).second)

-- literals of a list
pub opposed-at : (l : FoLit) (ks : List FoLit) (i : ℕ) (k : FoLit) → slice_get ks i ≡ Some k → Opposes l k → IsOpposed l ks
opposed-at l ks i k e h = record { place = i; other = k; stands = e; opposes = h }

pub opposed-nowhere : (l : FoLit) (ks : List FoLit) (n : ℕ) → NoneBelow (λ (k : FoLit). Opposes l k) ks n → length ks ≤ n → IsOpposed l ks → ⊥
opposed-nowhere l ks n h m o = none-all (λ (k : FoLit). Opposes l k) ks n h m o.place o.other o.stands o.opposes

-- a literal that always holds with others
pub holds-reflexive : (l : FoLit) (ks : List FoLit) → l.pos ≡ true → l.left ≡ l.right → HoldsWith l ks
holds-reflexive l ks e f = reflexive l.right (literal-same l (equal l.right l.right) e f refl)

holds-parts : (l : FoLit) (ks : List FoLit) → HoldsWith l ks → ((l.pos ≡ true) × (l.left ≡ l.right)) ⊎ IsOpposed l ks
holds-parts l ks (reflexive s e) = inl (subst (λ (k : FoLit). (k.pos ≡ true) × (k.left ≡ k.right)) (sym e) (refl, refl))
holds-parts l ks (opposed o) = inr o

pub holds-opposed : (l : FoLit) (ks : List FoLit) (r : Bool) → ((l.pos ≡ true) × (l.left ≡ l.right) → ⊥) → Decides r (IsOpposed l ks) → Decides r (HoldsWith l ks)
holds-opposed l ks r f d = (
  λ t. opposed (d.0 t),
  λ h. elim (holds-parts l ks h) [
    | inl x ↦ absurd (f x)
    | inr o ↦ d.1 o
  ],
)

pub tautology-at : (ls : List FoLit) (i : ℕ) (l : FoLit) → slice_get ls i ≡ Some l → HoldsWith l ls → IsTautology ls
tautology-at ls i l e h = record { place = i; literal = l; stands = e; holds = h }

pub tautology-nowhere : (ls : List FoLit) (n : ℕ) → NoneBelow (λ (l : FoLit). HoldsWith l ls) ls n → length ls ≤ n → IsTautology ls → ⊥
tautology-nowhere ls n h m t = none-all (λ (l : FoLit). HoldsWith l ls) ls n h m t.place t.literal t.stands t.holds
