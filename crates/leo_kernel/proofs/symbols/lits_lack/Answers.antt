use Rattle.leo_kernel.proofs.TypedLits.{literals-at}
use Rattle.leo_kernel.proofs.Lacking.{all-lits_lack, one-lit_has}
use Rattle.leo_kernel.proofs.symbols.lits_lack.Goals as goal

pub lit_lacks-requires-clause-left : goal.lit_lacks-requires-clause-left
lit_lacks-requires-clause-left c = (literals-at c.args.bank.now c.args.lits.now c.requires c.loop-lit.lit-index c.lit-item.result c.loop-lit-test.true c.lit-item.is).0

pub lit_lacks-requires-clause-right : goal.lit_lacks-requires-clause-right
lit_lacks-requires-clause-right c = (literals-at c.args.bank.now c.args.lits.now c.requires c.loop-lit.lit-index c.lit-item.result c.loop-lit-test.true c.lit-item.is).1

pub returns-then-not-passes : goal.returns-then-not-passes
returns-then-not-passes c = one-lit_has c.args.bank.now c.args.symbol c.args.lits.now c.loop-lit.lit-index c.lit-item.result c.in_ok-passes.passes c.loop-lit-test.true c.lit-item.is c.in_ok-passes.ensures.value c.if-not-passes.true

pub returns : goal.returns
returns c = all-lits_lack c.args.bank.now c.args.symbol c.args.lits.now c.loop-lit.lit-index c.loop-lit-test.false c.loop-lit.invariant.0
