use Rattle.leo_tstp.proofs.Built.{types-push}
use Rattle.leo_tstp.proofs.building.records.types_of.Goals as goal

pub loop-place-preserved : goal.loop-place-preserved
loop-place-preserved c = λ d n. rw c.in_ok-push.ensures.items (types-push d _ _ (c.loop-place.invariant d n) (c.in_ok-ty.ensures d n))
