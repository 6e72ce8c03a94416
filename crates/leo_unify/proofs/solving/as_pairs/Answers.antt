use Rattle.leo_unify.proofs.StateLemmas.{as-next}
use Rattle.leo_unify.proofs.solving.as_pairs.Goals as goal

pub loop-place-preserved : goal.loop-place-preserved
loop-place-preserved c =
    rw c.in_ok-push.ensures.ok (as-next c.args.pairs.now c.loop-place.out c.loop-place.place c.index-pairs-place.result c.index-pairs-place-in-loop-place.result c.loop-place-test.true c.index-pairs-place.is c.index-pairs-place-in-loop-place.is c.loop-place.invariant)
