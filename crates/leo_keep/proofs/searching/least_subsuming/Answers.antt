use Rattle.std.proofs.lemmas.Option.{slice_get-get_or}
use Rattle.leo_keep.proofs.Lowering.{among-next}
use Rattle.leo_keep.proofs.searching.least_subsuming.Goals as goal

pub loop-place-preserved : goal.loop-place-preserved
loop-place-preserved c = among-next _ _ c.args.numbers.now c.loop-place.place c.args.before c.loop-place.least c.in_ok-least.least _ c.loop-place.invariant (slice_get-get_or c.args.numbers.now c.loop-place.place _ c.loop-place-test.true) c.in_ok-least.ensures
