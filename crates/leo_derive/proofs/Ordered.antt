-- Accepted lines are in order.
use Rattle.std.proofs.Common.{◌≡◌, ℕ, zero, suc, ◌<◌, ◌≤◌, List, [], ◌∷◌, length, take, refl, subst, arith}
use Rattle.std.specs.Prelude.{slice_get, Some}
use Rattle.std.specs.List.{Contains}
use Rattle.leo_terms.specs.Tree.{Tree}
use Rattle.leo_kernel.specs.Steps.{Line}
use Rattle.leo_kernel.specs.Symbols.{LinesLackSymbol, IsNewSymbol}
use Rattle.leo_kernel.specs.Acceptance.{AreAccepted}
use Rattle.leo_derive.specs.Marking.{AreInOrder, AreNumbersBelow}
use Rattle.leo_derive.specs.Resting.{named, LineLacksSymbol}
use Rattle.leo_derive.proofs.Occurring.{line_has}
use Rattle.leo_derive.proofs.PrunedLaw.{named_earlier}

at_most : (m n : ℕ) → (n < m → ⊥) → m ≤ n
at_most zero n h = omega arith
at_most (suc m) zero h = absurd (h (omega arith))
at_most (suc m) (suc n) h = let o = at_most m n (λ o. h (omega (arith, o))) in omega (arith, o)

earlier_get : {A : Type 0} (xs : List A) (m n : ℕ) (x : A) → n < m → slice_get xs n ≡ Some x → slice_get (take m xs) n ≡ Some x
earlier_get [] m n x o e = absurd cc
earlier_get (y ∷ ys) zero n x o e = absurd (let f : ⊥ = omega (arith, o) in f)
earlier_get (y ∷ ys) (suc m) zero x o e = e
earlier_get (y ∷ ys) (suc m) (suc n) x o e = earlier_get ys m n x (omega (arith, o)) e

at_most_taken : {A : Type 0} (xs : List A) (n : ℕ) → length (take n xs) ≤ n
at_most_taken [] zero = omega arith
at_most_taken [] (suc n) = omega arith
at_most_taken (x ∷ xs) zero = omega arith
at_most_taken (x ∷ xs) (suc n) = let o = at_most_taken xs n in omega (arith, o)

below_all : (n : ℕ) (ns : List ℕ) → ((q : ℕ) → Contains ns q → q < n) → AreNumbersBelow n ns
below_all n [] h = tt
below_all n (m ∷ ms) h = (h m (zero, omega arith, refl), below_all n ms (λ q c. h q (suc c.0, (let o = c.1 in omega (arith, o)), c.2)))

lacks_at : (s : ℕ) (ls : List Line) (n : ℕ) (l : Line) → LinesLackSymbol s ls → slice_get ls n ≡ Some l → LineLacksSymbol s l
lacks_at s [] n l h e = absurd cc
lacks_at s (k ∷ ks) zero l h e = let f : k ≡ l = cc in subst (LineLacksSymbol s) f (h.0, h.1)
lacks_at s (k ∷ ks) (suc n) l h e = lacks_at s ks n l h.2 e

pub accepted_in_order : (hypotheses : List Tree) (lines : List Line) → AreAccepted hypotheses lines → AreInOrder lines
accepted_in_order hypotheses lines accepted = record {
  named_earlier = λ n l e. below_all n (named l.rule) (λ q c. let o = named_earlier hypotheses (take n lines) l.rule q (accepted n l e).parents c in let p = at_most_taken lines n in omega (arith, o, p));
  symbols_earlier = λ n m l k s e has f rule. at_most m n (λ o.
      let new : IsNewSymbol hypotheses (take m lines) s k.clause.literals = rw rule at (accepted m k f).symbols in
      line_has s l has (lacks_at s (take m lines) n l new.lines_lack (earlier_get lines m n l o e)));
}
