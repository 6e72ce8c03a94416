-- Where the base types and the symbols of a journal's lines come from.
use Rattle.std.specs.Prelude.{ℕ, suc, ◌≡◌, true, List, take, slice_get, Some}
use Rattle.leo_terms.specs.Tree.{Tree}
use Rattle.leo_kernel.specs.Steps.{Line, abbreviate}
use Rattle.leo_clausify.specs.Origins.{Origin, AreTermsFrom, IsLineFrom}

-- the tests say yes to `$o`, to all that stands in the hypotheses, and to each symbol that one of the lines abbreviates
pub record IsOriginOf (hypotheses : List Tree) (lines : List Line) (o : Origin) : Type 0 where
  pub truth : o.has_base 0 ≡ true
  pub hypotheses_from : AreTermsFrom o hypotheses
  pub abbreviated : (n s : ℕ) (l : Line) → slice_get lines n ≡ Some l → l.rule ≡ abbreviate s → o.has_symbol s ≡ true

-- each base type in a line is `$o` or stands in the hypotheses, and each symbol in it stands there or is one that this line or
-- an earlier one abbreviates
pub record AreFrom (hypotheses : List Tree) (lines : List Line) : Type 0 where
  pub each : (n : ℕ) (l : Line) → slice_get lines n ≡ Some l → (o : Origin) → IsOriginOf hypotheses (take (suc n) lines) o → IsLineFrom o l
