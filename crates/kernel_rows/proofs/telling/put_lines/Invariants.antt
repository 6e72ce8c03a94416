use Rattle.kernel_rows.specs.Boards.{IsBoard}
use Rattle.kernel_rows.proofs.telling.put_lines.Given as goal

abbrev pub invariant-loop-text : goal.invariant-loop-text
invariant-loop-text g l = IsBoard l.bank l.board
