use Rattle.fo_super.proofs.Gathering.{literal-named}
use Rattle.fo_super.proofs.numbering.add_literal_names.Goals as goal

pub loop-literal-preserved : goal.loop-literal-preserved
loop-literal-preserved c =
    literal-named c.args.names.now.items c.loop-literal.names.items c.add_names.new.names.items c.add_names-in-loop-literal.new.names.items c.args.literals.now c.loop-literal.literal-index c.literal-item.result c.nodes.result.now c.nodes-in-loop-literal.result.now
    c.loop-literal-test.true c.literal-item.is c.loop-literal.invariant c.nodes.ensures c.nodes-in-loop-literal.ensures c.in_ok-add_names.ensures c.in_ok-add_names-2.ensures
