use Rattle.leo_clause.proofs.Meeting.{below-at, types-next}
use Rattle.leo_clause.proofs.arranging.types_in.Goals as goal

pub type_at-requires : goal.type_at-requires
type_at-requires c = below-at _ c.args.order.now.keys c.requires c.loop-place.place c.number_at-number.result c.number_at-number.ensures

pub loop-place-preserved : goal.loop-place-preserved
loop-place-preserved c =
    let n = types-next c.args.vars.now c.args.order.now.keys c.loop-place.types c.loop-place.place c.number_at-number.result c.type_at.result c.number_at-number.ensures c.type_at.ensures c.loop-place.invariant in
    rw c.in_ok-push.ensures.ok n
