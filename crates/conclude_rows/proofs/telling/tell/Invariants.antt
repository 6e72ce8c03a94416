use Rattle.conclude_rows.specs.Boards.{IsBoard}
use Rattle.conclude_rows.proofs.telling.tell.Given as goal

abbrev pub invariant-loop-text : goal.invariant-loop-text
invariant-loop-text g l = IsBoard l.bank l.board
