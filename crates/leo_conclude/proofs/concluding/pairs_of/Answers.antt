use Rattle.std.proofs.Common.{refl}
use Rattle.leo_conclude.proofs.Constraining.{number-at, pair-next}
use Rattle.leo_conclude.proofs.concluding.pairs_of.Goals as goal

pub bounds-as_slice-number : goal.bounds-as_slice-number
bounds-as_slice-number c = rw c.as_slice.ensures (number-at c.args.clause.now.lits c.args.constraints.now c.requires.numbers c.loop-number.number-index 0 c.loop-number-test.true)

pub loop-number-preserved : goal.loop-number-preserved
loop-number-preserved c =
    rw c.in_ok-push.ensures.ok (pair-next c.args.bank.now c.args.clause.now c.args.constraints.now c.loop-number.pairs c.loop-number.number-index _ 0 c.index-as_slice-number.result c.requires.clause c.requires.numbers c.loop-number.invariant.0 c.loop-number.invariant.1 c.loop-number-test.true refl (rw c.as_slice.ensures at c.index-as_slice-number.is))
