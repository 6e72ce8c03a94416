use Rattle.std.proofs.Common.{◌≡◌}
use Rattle.leo_terms.specs.Contents.{Extends}
use Rattle.leo_tstp.specs.Built.{IsNumbering}
use Rattle.leo_tstp.proofs.building.numbers.number_types.Given as goal

abbrev pub invariant-loop-place : goal.invariant-loop-place
invariant-loop-place l = record {
  numbering : IsNumbering l.bank l.numbers;
  symbols : l.numbers.symbols ≡ l.fn.numbers.symbols;
  grows : Extends l.fn.bank l.bank;
}
