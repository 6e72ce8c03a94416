-- Measures of recursions over terms.
use Rattle.std.proofs.Common.{ℕ, ◌+◌, ◌*◌, ◌<◌, Option, Some, None, arith}
use Rattle.leo_terms.specs.Contents.{IsArgumentBelow}

-- an argument comes between its term and the term that has it
abbrev pub argument_size : Option ℕ → ℕ
argument_size None = 0
argument_size (Some t) = 3 * t + 3

pub argument_size-falls : (n : ℕ) (x : Option ℕ) → IsArgumentBelow n x → argument_size x < 3 * n + 1
argument_size-falls n None h = omega arith
argument_size-falls n (Some x) h = omega arith
