use Rattle.leo_kernel.proofs.Lacking.{all-lack, one-has}
use Rattle.leo_kernel.proofs.symbols.terms_lack.Goals as goal

pub returns-then-not-passes : goal.returns-then-not-passes
returns-then-not-passes c = one-has c.args.bank.now c.args.symbol c.args.terms.now c.loop-t.t-index c.t-item.result c.in_ok-passes.passes c.loop-t-test.true c.t-item.is c.in_ok-passes.ensures.value c.if-not-passes.true

pub returns : goal.returns
returns c = all-lack c.args.bank.now c.args.symbol c.args.terms.now c.loop-t.t-index c.loop-t-test.false c.loop-t.invariant.0
