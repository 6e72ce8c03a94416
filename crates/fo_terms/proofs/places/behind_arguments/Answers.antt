use Rattle.std.proofs.Common.{◌<◌, suc, arith, add-one}
use Rattle.fo_terms.specs.Terms.{count}
use Rattle.fo_terms.specs.Places.{terms_at, IsBehind}
use Rattle.fo_terms.proofs.AtPlaces.{IsPassed-range, IsPassed-step}
use Rattle.fo_terms.proofs.places.behind_arguments.Goals as goal

pub place_at-end-requires : goal.place_at-end-requires
place_at-end-requires c =
    let l : c.loop-passed.passed < count (terms_at c.args.nodes.now (suc c.args.at)) = omega arith in
    let inside = IsPassed-range c.args.nodes.now c.args.at c.loop-passed.passed c.loop-passed.end c.loop-passed.invariant l in
    omega arith

pub loop-passed-preserved : goal.loop-passed-preserved
loop-passed-preserved c =
    let behind : IsBehind c.args.nodes.now c.loop-passed.end c.place_at-end.result = c.requires.later c.loop-passed.end c.place_at-end.result c.loop-passed.invariant.later c.place_at-end.ensures in
    rw add-one (IsPassed-step c.args.nodes.now c.args.at c.loop-passed.passed c.loop-passed.end c.place_at-end.result c.loop-passed.invariant behind)
