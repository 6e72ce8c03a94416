use Rattle.std.proofs.Common.{◌+◌, ◌-◌, ◌≡◌, subst, map, arith}
use Rattle.fo_super.specs.Runs.{origin_of}
use Rattle.fo_prove.specs.Marks.{IsClosedFrom}
use Rattle.fo_prove.proofs.needed.visit_all.Goals as goal

pub loop-left-preserved : goal.loop-left-preserved
loop-left-preserved c =
    let left = c.loop-left.left in
    let os = map origin_of c.args.origins.now in
    let i = c.loop-left.invariant in
    let back : left ≡ left - 1 + 1 = omega (arith, c.loop-left-test.true) in
    record {
      within = omega (arith, i.within);
      same_length = c.visit.ensures.same_length;
      closed = λ e h. c.visit.ensures.visited e (subst (λ n. IsClosedFrom n os e c.loop-left.marks) back (i.closed e h));
    }
