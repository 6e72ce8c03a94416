use Rattle.std.proofs.Common.{refl}
use Rattle.fo_super.proofs.Answering.{get-index}
use Rattle.fo_super.proofs.Bindings.{unbound-next, unbound-whole}
use Rattle.fo_super.proofs.matching.bound_to.Goals as goal

pub loop-binding-preserved : goal.loop-binding-preserved
loop-binding-preserved c = unbound-next c.args.variable c.args.bindings.now c.loop-binding.binding-index c.binding-item.result c.loop-binding.invariant c.loop-binding-test.true c.binding-item.is c.if-binding-variable.false

pub returns-then-binding-variable : goal.returns-then-binding-variable
returns-then-binding-variable c = record {
  place = c.loop-binding.binding-index;
  binding = c.binding-item.result;
  stands = get-index c.args.bindings.now c.loop-binding.binding-index c.binding-item.result c.loop-binding-test.true c.binding-item.is;
  variable_is = c.if-binding-variable.true;
  term_is = refl;
}

pub returns : goal.returns
returns c = unbound-whole c.args.variable c.args.bindings.now c.loop-binding.binding-index c.loop-binding.invariant c.loop-binding-test.false
