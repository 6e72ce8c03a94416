use Rattle.std.proofs.Common.{◌+◌, arith}
use Rattle.fo_prove.proofs.Lining.{variable_pushed}
use Rattle.fo_prove.proofs.own.push_variables.Goals as goal

pub loop-variable-preserved : goal.loop-variable-preserved
loop-variable-preserved c =
    let v = c.loop-variable.variable in
    let i = c.loop-variable.invariant in
    record {
      within = omega (arith, c.loop-variable-test.true);
      so_far = variable_pushed c.loop-variable.words c.push.new.self _ v (v + 1) c.args.count c.loop-variable-test.true (omega arith) c.in_ok-push.ensures.ok i.so_far;
    }
