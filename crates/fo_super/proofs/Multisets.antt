-- Sides of literals as multisets.
use Rattle.std.proofs.Common.{ℕ, zero, suc, ◌≡◌, ◌<◌, Bool, true, false, [], ◌∷◌, refl, sym, subst, arith, ◌⊎◌, inl, inr}
use Rattle.std.specs.Bool.{Decides, if◌then◌else◌}
use Rattle.fo_terms.specs.Terms.{Term}
use Rattle.fo_text.specs.declared.problem.FoLit.{FoLit}
use Rattle.fo_kbo.specs.Order.{IsGreater}
use Rattle.fo_super.specs.Literals.{same_term, sides, times, IsCoveredBy, IsLiteralGreater}
use Rattle.fo_super.proofs.SameTerms.{same-term}

-- a term that stands among the sides is one of them
abbrev pub IsSide : Term → FoLit → Type 0
IsSide t l = (t ≡ l.left) ⊎ (t ≡ l.right)

one-of : (t a b : Term) (m : ℕ) → (p q : Bool) → same_term t a ≡ p → same_term t b ≡ q → (p ≡ false → q ≡ false → m ≡ 0) → 0 < m → (t ≡ a) ⊎ (t ≡ b)
one-of t a b m true q e f z l = inl (same-term t a e)
one-of t a b m false true e f z l = inr (same-term t b f)
one-of t a b m false false e f z l = absurd (let w = z refl refl in omega arith)

times-none : (t a b : Term) (pos : Bool) → same_term t a ≡ false → same_term t b ≡ false → times t (if pos then a ∷ b ∷ [] else a ∷ a ∷ b ∷ b ∷ []) ≡ 0
times-none t a b true e f = rw (e, f) refl
times-none t a b false e f = rw (e, f) refl

pub is-side : (t : Term) (l : FoLit) → 0 < times t (sides l) → IsSide t l
is-side t l h = one-of t l.left l.right (times t (sides l)) (same_term t l.left) (same_term t l.right) refl refl (λ e f. times-none t l.left l.right l.pos e f) h

-- a term that stands in one literal and not in the other is a side of one
unlike-sides : (t : Term) (l k : FoLit) (m n : ℕ) → times t (sides l) ≡ m → times t (sides k) ≡ n → (m ≡ n → ⊥) → IsSide t l ⊎ IsSide t k
unlike-sides t l k zero zero e f d = absurd (d refl)
unlike-sides t l k (suc m) n e f d = inl (is-side t l (omega arith))
unlike-sides t l k zero (suc n) e f d = inr (is-side t k (omega arith))

-- a term that covers another stands in the first literal
pub covered-right : (l k : FoLit) (x : Term) (r : Bool) → ((times l.left (sides k) < times l.left (sides l)) × IsGreater l.left x → ⊥) → Decides r ((times l.right (sides k) < times l.right (sides l)) × IsGreater l.right x) → Decides r (IsCoveredBy (sides l) (sides k) x)
covered-right l k x r f d = (
  λ e. (let h = d.0 e in (l.right, h.0, h.1)),
  λ c. elim (is-side c.0 l (let h = c.1 in omega arith)) [
    | inl e ↦ absurd (f (subst (λ y. (times y (sides k) < times y (sides l)) × IsGreater y x) e (c.1, c.2)))
    | inr e ↦ d.1 (subst (λ y. (times y (sides k) < times y (sides l)) × IsGreater y x) e (c.1, c.2))
  ],
)

-- two literals differ at one of their sides
abbrev pub DifferAt : FoLit → FoLit → Term → Type 0
DifferAt l k t = times t (sides l) ≡ times t (sides k) → ⊥

pub differ-nowhere : (l k : FoLit) (r : Bool) → (DifferAt l k l.left → ⊥) → (DifferAt l k l.right → ⊥) → (DifferAt l k k.left → ⊥) → Decides r (DifferAt l k k.right) → Decides r ((t : Term) × DifferAt l k t)
differ-nowhere l k r f g h d = (
  λ e. (k.right, d.0 e),
  λ s. elim (unlike-sides s.0 l k (times s.0 (sides l)) (times s.0 (sides k)) refl refl s.1) [
    | inl e ↦ elim e [
      | inl i ↦ absurd (f (subst (DifferAt l k) i s.1))
      | inr i ↦ absurd (g (subst (DifferAt l k) i s.1))
    ]
    | inr e ↦ elim e [
      | inl i ↦ absurd (h (subst (DifferAt l k) i s.1))
      | inr i ↦ d.1 (subst (DifferAt l k) i s.1)
    ]
  ],
)

-- whether a literal is greater
abbrev pub CoversAt : FoLit → FoLit → Term → Type 0
CoversAt l k x = times x (sides l) < times x (sides k) → IsCoveredBy (sides l) (sides k) x

pub greater-decides : (l k : FoLit) (r : Bool) → ((t : Term) × DifferAt l k t) → CoversAt l k k.left → Decides r (CoversAt l k k.right) → Decides r (IsLiteralGreater l k)
greater-decides l k r s a d = (
  λ e. record {
    term = s.0;
    differ = s.1;
    covered = λ x m. elim (is-side x k (omega arith)) [
      | inl i ↦ subst (CoversAt l k) (sym i) a m
      | inr i ↦ subst (CoversAt l k) (sym i) (d.0 e) m
    ];
  },
  λ g. d.1 (g.covered k.right),
)
