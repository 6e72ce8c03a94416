-- When two literals of numbers are one.
use Rattle.std.proofs.Common.{ℕ, nat_eq, ◌≡◌, Bool, true, false, ◌&&◌, refl, arith}
use Rattle.std.specs.Bool.{beq, Decides}
use Rattle.std.proofs.lemmas.Bool.{and_parts}
use Rattle.std.proofs.lemmas.Bool.Decides.{nat_tests}
use Rattle.leo_clause.specs.declared.clause.Lit.{Lit}

beq-itself : (p : Bool) → beq p p ≡ true
beq-itself true = refl
beq-itself false = refl

beq-true : (p q : Bool) → beq p q ≡ true → p ≡ q
beq-true true true h = refl
beq-true true false h = cc
beq-true false true h = cc
beq-true false false h = refl

same-number : (n : ℕ) → nat_eq n n ≡ true
same-number n = grind (arith, nat_tests)

equal-numbers : (m n : ℕ) → nat_eq m n ≡ true → m ≡ n
equal-numbers m n h = grind (arith, nat_tests)

lit : Bool → ℕ → ℕ → Lit
lit p l r = record { pos = p; left = l; right = r }

parts-same : (p q : Bool) (l m r s : ℕ) → p ≡ q → l ≡ m → r ≡ s → lit p l r ≡ lit q m s
parts-same p q l m r s e f g = rw (e, f, g) refl

pub lit-decides : (a b : Lit) → Decides (beq a.pos b.pos && (nat_eq a.left b.left && nat_eq a.right b.right)) (a ≡ b)
unfolding lit
lit-decides a b = (
  λ h.
      let p = and_parts (beq a.pos b.pos) _ h in
      let q = and_parts (nat_eq a.left b.left) _ p.1 in
      parts-same a.pos b.pos a.left b.left a.right b.right (beq-true a.pos b.pos p.0) (equal-numbers a.left b.left q.0) (equal-numbers a.right b.right q.1),
  λ e. rw (e, beq-itself b.pos, same-number b.left, same-number b.right) refl,
)

pub number-decides : (m n : ℕ) → Decides (nat_eq m n) (m ≡ n)
number-decides m n = (equal-numbers m n, λ e. rw e (same-number n))
