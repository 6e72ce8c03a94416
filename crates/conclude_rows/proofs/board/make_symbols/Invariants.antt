use Rattle.leo_terms.specs.Contents.{Extends}
use Rattle.conclude_rows.specs.Stacks.{AreSymbols}
use Rattle.conclude_rows.proofs.board.make_symbols.Given as goal

abbrev pub invariant-loop-place : goal.invariant-loop-place
invariant-loop-place l = Extends l.initial.bank l.bank × AreSymbols l.bank l.symbols
