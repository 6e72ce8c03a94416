-- Which lines can be named: by the atoms of a problem, and by the symbols that lines abbreviate.
use Rattle.std.specs.Prelude.{ℕ, suc, ◌≡◌, true, List, take, slice_get, Some}
use Rattle.leo_q0.specs.Terms.{SimpleType}
use Rattle.leo_elab.specs.Problem.{Constant, Declared}
use Rattle.leo_kernel.specs.Steps.{Line, abbreviate}
use Rattle.leo_clausify.specs.Origins.{Origin, IsTypeFrom, IsLineFrom}

-- the tests say yes to `$o` and `$i`, to each base type of an atom that is a type, and to the symbol of each atom that is a constant
pub record IsVocabulary (d : Declared) (o : Origin) : Type 0 where
  pub truth : o.has_base 0 ≡ true
  pub individuals : o.has_base 1 ≡ true
  pub types : (n : ℕ) (p : List ℕ × SimpleType) → slice_get d.types n ≡ Some p → IsTypeFrom o p.1
  pub constants : (n : ℕ) (p : List ℕ × Constant) → slice_get d.constants n ≡ Some p → o.has_symbol p.1.number ≡ true

-- each base type in a line is `$o`, `$i` or one of an atom, and each symbol in it is one of an atom, or one that this line or an
-- earlier one abbreviates
pub record AreNameable (d : Declared) (lines : List Line) : Type 0 where
  pub each : (n : ℕ) (l : Line) → slice_get lines n ≡ Some l → (o : Origin) → IsVocabulary d o
      → ((m s : ℕ) (k : Line) → slice_get (take (suc n) lines) m ≡ Some k → k.rule ≡ abbreviate s → o.has_symbol s ≡ true) → IsLineFrom o l
