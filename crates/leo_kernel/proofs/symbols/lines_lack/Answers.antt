use Rattle.leo_kernel.proofs.LinesLacking.{all-lines_lack, one-line_has}
use Rattle.leo_kernel.proofs.symbols.lines_lack.Goals as goal

pub returns-then-not-passes : goal.returns-then-not-passes
returns-then-not-passes c = one-line_has c.args.bank.now c.args.symbol c.args.lines.now c.loop-line.line-index c.line-item.result c.in_ok-passes.passes c.loop-line-test.true c.line-item.is c.in_ok-passes.ensures c.if-not-passes.true

pub returns : goal.returns
returns c = all-lines_lack c.args.bank.now c.args.symbol c.args.lines.now c.loop-line.line-index c.loop-line-test.false c.loop-line.invariant
