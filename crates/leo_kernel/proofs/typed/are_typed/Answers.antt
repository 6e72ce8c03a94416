use Rattle.leo_kernel.proofs.TypedLits.{literals-at, all-typed, one-untyped}
use Rattle.leo_kernel.proofs.typed.are_typed.Goals as goal

pub is_typed_lit-requires-clause-left : goal.is_typed_lit-requires-clause-left
is_typed_lit-requires-clause-left c = (literals-at c.args.bank.now c.args.lits.now c.requires.lits c.loop-lit.lit-index c.lit-item.result c.loop-lit-test.true c.lit-item.is).0

pub is_typed_lit-requires-clause-right : goal.is_typed_lit-requires-clause-right
is_typed_lit-requires-clause-right c = (literals-at c.args.bank.now c.args.lits.now c.requires.lits c.loop-lit.lit-index c.lit-item.result c.loop-lit-test.true c.lit-item.is).1

pub returns-then-not-typed : goal.returns-then-not-typed
returns-then-not-typed c = one-untyped c.args.bank.now c.args.vars.now c.args.lits.now c.loop-lit.lit-index c.lit-item.result c.in_ok-typed.typed c.loop-lit-test.true c.lit-item.is c.in_ok-typed.ensures.value c.if-not-typed.true

pub returns : goal.returns
returns c = all-typed c.args.bank.now c.args.vars.now c.args.lits.now c.loop-lit.lit-index c.loop-lit-test.false c.loop-lit.invariant.0
