use Rattle.leo_keep.proofs.Grouping.{heads-at}
use Rattle.leo_keep.proofs.groups.place_of.Goals as goal

pub returns-then-has_heads : goal.returns-then-has_heads
returns-then-has_heads c = heads-at c.args.groups.now c.loop-place.place c.index-groups-place.result c.args.heads.now c.loop-place-test.true c.index-groups-place.is (c.has_heads.ensures.0 c.if-has_heads.true)
