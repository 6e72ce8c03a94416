use Rattle.std.proofs.Common.{map}
use Rattle.leo_clause.specs.Trees.{literal_at}
use Rattle.leo_keep.proofs.Sending.{have-all, have-next, heads-within, lit-at}
use Rattle.leo_keep.proofs.heads.heads_of.Goals as goal

pub heads_of_literal-requires-clause-left : goal.heads_of_literal-requires-clause-left
heads_of_literal-requires-clause-left c = (lit-at c.args.bank.now c.args.lits.now c.requires c.loop-lit.lit-index c.lit-item.result c.loop-lit-test.true c.lit-item.is).0

pub heads_of_literal-requires-clause-right : goal.heads_of_literal-requires-clause-right
heads_of_literal-requires-clause-right c = (lit-at c.args.bank.now c.args.lits.now c.requires c.loop-lit.lit-index c.lit-item.result c.loop-lit-test.true c.lit-item.is).1

pub loop-lit-preserved : goal.loop-lit-preserved
loop-lit-preserved c =
    rw c.in_ok-push.ensures.items (have-next c.args.bank.now c.args.lits.now c.loop-lit.lit-index c.lit-item.result c.loop-lit.heads.items c.heads_of_literal.result c.loop-lit.invariant c.loop-lit-test.true c.lit-item.is c.heads_of_literal.ensures)

pub returns-clause-heads : goal.returns-clause-heads
returns-clause-heads c = have-all c.args.bank.now c.args.lits.now c.loop-lit.lit-index c.loop-lit.heads.items c.loop-lit.invariant c.loop-lit-test.false

pub returns-clause-literals : goal.returns-clause-literals
returns-clause-literals c =
    heads-within c.args.bank.now (map (literal_at c.args.bank.now) c.args.lits.now) c.loop-lit.heads.items (have-all c.args.bank.now c.args.lits.now c.loop-lit.lit-index c.loop-lit.heads.items c.loop-lit.invariant c.loop-lit-test.false)
