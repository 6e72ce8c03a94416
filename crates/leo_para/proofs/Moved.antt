-- The literals of a typed clause have the clause's variables alone.
use Rattle.std.proofs.Common.{ℕ, zero, suc, ◌≡◌, ◌+◌, List, [], ◌∷◌, slice_get, Some}
use Rattle.leo_q0.specs.Terms.{SimpleType}
use Rattle.leo_terms.specs.Tree.{Tree, variable, bound, symbol, app, lam, logic, absent, IsGiven, IsOfTypeIfGiven}
use Rattle.leo_clause.specs.Trees.{Literal}
use Rattle.leo_clause.specs.Typed.{AreTyped, IsOver}
use Rattle.leo_kernel.specs.Leaves.{AreDeclared}
use Rattle.leo_kernel.specs.Moved.{variables_from}
use Rattle.leo_kernel.proofs.LeafTests.{given-passes}
use Rattle.leo_kernel.proofs.MovedTerms.{variables-types}

-- a variable of each type is given for each variable
variable-given : (first : ℕ) (vs : List SimpleType) (n : ℕ) (a : SimpleType) → slice_get vs n ≡ Some a → IsOfTypeIfGiven a (slice_get (variables_from first vs) n)
variable-given first [] n a e = absurd (cc)
variable-given first (b ∷ vs) zero a e = cc
variable-given first (b ∷ vs) (suc n) a e = variable-given (suc first) vs n a e

over-given : (first : ℕ) (vs : List SimpleType) (depth : ℕ) (t : Tree) → IsOver vs depth t → IsGiven (variables_from first vs) t
over-given first vs depth (variable n a) h = variable-given first vs n a h
over-given first vs depth (bound i a) h = tt
over-given first vs depth (symbol n a) h = tt
over-given first vs depth (app f x) h = (over-given first vs depth f h.0, over-given first vs depth x h.1)
over-given first vs depth (lam a t) h = over-given first vs (depth + 1) t h
over-given first vs depth (logic c x y) h = (over-given first vs depth x h.0, over-given first vs depth y h.1)
over-given first vs depth absent h = tt

pub typed-declared : (vs : List SimpleType) (ls : List Literal) → AreTyped vs ls → AreDeclared vs ls
typed-declared vs [] h = tt
typed-declared vs (l ∷ ls) h = (
  rw (variables-types 0 vs) at (given-passes (variables_from 0 vs) 0 l.left (over-given 0 vs 0 l.left h.0.left_over)),
  rw (variables-types 0 vs) at (given-passes (variables_from 0 vs) 0 l.right (over-given 0 vs 0 l.right h.0.right_over)),
  typed-declared vs ls h.1,
)
