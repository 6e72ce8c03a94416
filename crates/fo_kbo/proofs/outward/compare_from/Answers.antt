use Rattle.std.proofs.Common.{suc, ◌-◌, ◌≡◌, ◌∙◌, sym, arith, Some}
use Rattle.std.specs.Prelude.{slice_get}
use Rattle.fo_kbo.specs.Outward.{ArePassed}
use Rattle.fo_kbo.proofs.Around.{passed-node, order-whole}
use Rattle.fo_kbo.proofs.outward.compare_from.Goals as goal

pub loop-here-preserved-in-Passed : goal.loop-here-preserved-in-Passed
loop-here-preserved-in-Passed c =
    let one : c.loop-here.here ≡ suc (c.loop-here.here - 1) = omega arith in
    let behind : ArePassed c.args.left.now c.args.right.now (suc (c.loop-here.here - 1)) c.loop-here.level.at c.loop-here.passed = rw one at c.loop-here.invariant.1 in
    let few = behind.few in
    let within = c.loop-here.invariant.2 in
    let same : slice_get c.args.right.now (c.loop-here.here - 1) ≡ Some c.node_at.result = sym (c.requires.same (c.loop-here.here - 1) (omega arith)) ∙ c.node_at.ensures in (
      c.loop-here.invariant.0,
      passed-node c.args.left.now c.args.right.now (c.loop-here.here - 1) c.loop-here.level.at c.loop-here.passed c.in-Passed.now c.node_at.result c.node_at.ensures same c.in-Passed.ensures.0 c.in-Passed.ensures.1 behind,
      within,
      c.loop-here.invariant.3,
    )

pub returns : goal.returns
returns c =
    let over : c.loop-here.here ≡ 0 = omega arith in
    order-whole c.args.left.now c.args.right.now c.loop-here.level c.loop-here.passed c.requires.left c.requires.right c.loop-here.invariant.0 (rw over at c.loop-here.invariant.1)
