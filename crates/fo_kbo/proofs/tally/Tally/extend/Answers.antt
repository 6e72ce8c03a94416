use Rattle.std.proofs.Common.{◌≡◌, ◌≤◌, arith}
use Rattle.fo_kbo.proofs.tally.Tally.extend.Goals as goal

pub loop-at-preserved : goal.loop-at-preserved
loop-at-preserved c a l t s =
    let from = c.loop-at.auto.at in
    c.add.ensures c.args.nodes.now a c.loop-at.at (omega arith) c.node_at.ensures (c.loop-at.invariant a l t) s

pub returns : goal.returns
returns c a l t =
    let low : c.args.to ≤ c.loop-at.at = c.loop-at-test.false in
    let high : c.loop-at.at ≤ c.args.to = c.loop-at.auto.at-end c.requires.order in
    let over : c.loop-at.at ≡ c.args.to = omega arith in
    rw over at (c.loop-at.invariant a l t)
