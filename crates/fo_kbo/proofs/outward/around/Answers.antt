use Rattle.std.proofs.Common.{arith}
use Rattle.fo_terms.specs.Places.{IsBehind}
use Rattle.fo_terms.proofs.AtPlaces.{IsPrefix-full}
use Rattle.fo_kbo.proofs.Around.{left-enough, right-enough, left-behind, right-behind, around-different, around-heads}
use Rattle.fo_kbo.proofs.Tallying.{AreTallied-around}
use Rattle.fo_kbo.proofs.outward.around.Goals as goal

pub pass-left_end-requires-clause-full : goal.pass-left_end-requires-clause-full
pass-left_end-requires-clause-full c = IsPrefix-full c.args.left.now c.requires.left

pub pass-left_end-requires-clause-enough : goal.pass-left_end-requires-clause-enough
pass-left_end-requires-clause-enough c = left-enough c.args.left.now c.args.right.now (IsPrefix-full c.args.left.now c.requires.left) (IsPrefix-full c.args.right.now c.requires.right) c.args.level c.requires.ordered c.args.here c.args.missing c.requires.over

pub pass-right_end-requires-clause-full : goal.pass-right_end-requires-clause-full
pass-right_end-requires-clause-full c = IsPrefix-full c.args.right.now c.requires.right

pub pass-right_end-requires-clause-enough : goal.pass-right_end-requires-clause-enough
pass-right_end-requires-clause-enough c = right-enough c.args.left.now c.args.right.now (IsPrefix-full c.args.left.now c.requires.left) (IsPrefix-full c.args.right.now c.requires.right) c.args.level c.requires.ordered c.args.here c.args.missing c.requires.over

pub order_by-order-requires-clause-tallied : goal.order_by-order-requires-clause-tallied
order_by-order-requires-clause-tallied c =
    let left : IsBehind c.args.left.now c.args.here c.pass-left_end.result = left-behind c.args.left.now c.args.right.now (IsPrefix-full c.args.left.now c.requires.left) (IsPrefix-full c.args.right.now c.requires.right) c.args.level c.requires.ordered c.args.here c.args.missing c.requires.over c.pass-left_end.result c.pass-left_end.ensures.no_earlier c.pass-left_end.ensures.inside c.pass-left_end.ensures.reads in
    let right : IsBehind c.args.right.now c.args.here c.pass-right_end.result = right-behind c.args.left.now c.args.right.now (IsPrefix-full c.args.left.now c.requires.left) (IsPrefix-full c.args.right.now c.requires.right) c.args.level c.requires.ordered c.args.here c.args.missing c.requires.over c.pass-right_end.result c.pass-right_end.ensures.no_earlier c.pass-right_end.ensures.inside c.pass-right_end.ensures.reads in
    let few = c.requires.over.behind.few in
    AreTallied-around c.args.left.now c.args.right.now c.args.level.at c.args.level.left_end c.args.level.right_end c.args.here c.pass-left_end.result c.pass-right_end.result c.args.tallies.now.left c.args.tallies.now.right c.extend.new.self c.extend-2.new.self
    c.requires.tallied (omega arith) c.pass-left_end.ensures.no_earlier c.pass-right_end.ensures.no_earlier left right c.extend.ensures c.extend-2.ensures

pub order_by-order-requires-clause-different : goal.order_by-order-requires-clause-different
order_by-order-requires-clause-different c = around-different c.args.left.now c.args.right.now (IsPrefix-full c.args.left.now c.requires.left) (IsPrefix-full c.args.right.now c.requires.right) c.args.level c.requires.ordered c.args.here c.args.missing c.requires.over

pub order_by-order-requires-clause-heads : goal.order_by-order-requires-clause-heads
order_by-order-requires-clause-heads c =
    let left : IsBehind c.args.left.now c.args.here c.pass-left_end.result = left-behind c.args.left.now c.args.right.now (IsPrefix-full c.args.left.now c.requires.left) (IsPrefix-full c.args.right.now c.requires.right) c.args.level c.requires.ordered c.args.here c.args.missing c.requires.over c.pass-left_end.result c.pass-left_end.ensures.no_earlier c.pass-left_end.ensures.inside c.pass-left_end.ensures.reads in
    let right : IsBehind c.args.right.now c.args.here c.pass-right_end.result = right-behind c.args.left.now c.args.right.now (IsPrefix-full c.args.left.now c.requires.left) (IsPrefix-full c.args.right.now c.requires.right) c.args.level c.requires.ordered c.args.here c.args.missing c.requires.over c.pass-right_end.result c.pass-right_end.ensures.no_earlier c.pass-right_end.ensures.inside c.pass-right_end.ensures.reads in
    around-heads c.args.left.now c.args.right.now (IsPrefix-full c.args.left.now c.requires.left) (IsPrefix-full c.args.right.now c.requires.right) c.args.level c.requires.ordered c.args.here c.args.missing c.requires.over c.pass-left_end.result c.pass-right_end.result c.by_weight-heads.result left right c.by_weight-heads.ensures.heavier c.by_weight-heads.ensures.lighter c.by_weight-heads.ensures.same

pub returns-clause-ordered : goal.returns-clause-ordered
returns-clause-ordered c =
    let left : IsBehind c.args.left.now c.args.here c.pass-left_end.result = left-behind c.args.left.now c.args.right.now (IsPrefix-full c.args.left.now c.requires.left) (IsPrefix-full c.args.right.now c.requires.right) c.args.level c.requires.ordered c.args.here c.args.missing c.requires.over c.pass-left_end.result c.pass-left_end.ensures.no_earlier c.pass-left_end.ensures.inside c.pass-left_end.ensures.reads in
    let right : IsBehind c.args.right.now c.args.here c.pass-right_end.result = right-behind c.args.left.now c.args.right.now (IsPrefix-full c.args.left.now c.requires.left) (IsPrefix-full c.args.right.now c.requires.right) c.args.level c.requires.ordered c.args.here c.args.missing c.requires.over c.pass-right_end.result c.pass-right_end.ensures.no_earlier c.pass-right_end.ensures.inside c.pass-right_end.ensures.reads in
    record { left = left; right = right; different = around-different c.args.left.now c.args.right.now (IsPrefix-full c.args.left.now c.requires.left) (IsPrefix-full c.args.right.now c.requires.right) c.args.level c.requires.ordered c.args.here c.args.missing c.requires.over; order = c.order_by-order.ensures }

pub returns-clause-tallied : goal.returns-clause-tallied
returns-clause-tallied c =
    let left : IsBehind c.args.left.now c.args.here c.pass-left_end.result = left-behind c.args.left.now c.args.right.now (IsPrefix-full c.args.left.now c.requires.left) (IsPrefix-full c.args.right.now c.requires.right) c.args.level c.requires.ordered c.args.here c.args.missing c.requires.over c.pass-left_end.result c.pass-left_end.ensures.no_earlier c.pass-left_end.ensures.inside c.pass-left_end.ensures.reads in
    let right : IsBehind c.args.right.now c.args.here c.pass-right_end.result = right-behind c.args.left.now c.args.right.now (IsPrefix-full c.args.left.now c.requires.left) (IsPrefix-full c.args.right.now c.requires.right) c.args.level c.requires.ordered c.args.here c.args.missing c.requires.over c.pass-right_end.result c.pass-right_end.ensures.no_earlier c.pass-right_end.ensures.inside c.pass-right_end.ensures.reads in
    let few = c.requires.over.behind.few in
    AreTallied-around c.args.left.now c.args.right.now c.args.level.at c.args.level.left_end c.args.level.right_end c.args.here c.pass-left_end.result c.pass-right_end.result c.args.tallies.now.left c.args.tallies.now.right c.extend.new.self c.extend-2.new.self
    c.requires.tallied (omega arith) c.pass-left_end.ensures.no_earlier c.pass-right_end.ensures.no_earlier left right c.extend.ensures c.extend-2.ensures
