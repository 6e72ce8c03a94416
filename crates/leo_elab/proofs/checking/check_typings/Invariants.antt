use Rattle.std.proofs.Common.{◌≡◌, ℕ, ◌<◌, slice_get, Some}
use Rattle.leo_elab.specs.Typings.{Typing, IsRight}
use Rattle.leo_elab.proofs.checking.check_typings.Given as goal

abbrev pub invariant-loop-place : goal.invariant-loop-place
invariant-loop-place l = (n : ℕ) (t : Typing) → n < l.place → slice_get l.typings n ≡ Some t → IsRight l.firsts t
