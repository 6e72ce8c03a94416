-- The measure of an argument: it comes between its term and the term that has it.
use Rattle.std.proofs.Common.{ℕ, ◌+◌, ◌*◌, ◌<◌, Option, Some, None, arith}
use Rattle.leo_terms.specs.Contents.{IsArgumentBelow}

abbrev pub argument_measure : Option ℕ → ℕ
argument_measure None = 0
argument_measure (Some t) = 4 * t + 4

pub argument_measure-falls : (n : ℕ) (x : Option ℕ) → IsArgumentBelow n x → argument_measure x < 4 * n + 1
argument_measure-falls n None h = omega arith
argument_measure-falls n (Some x) h = omega arith
