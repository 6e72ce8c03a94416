use Rattle.fo_super.proofs.Gathering.{nodes-gathered}
use Rattle.fo_super.proofs.typing.nodes_of.Goals as goal

pub loop-term-preserved : goal.loop-term-preserved
loop-term-preserved c =
    nodes-gathered c.args.terms.now c.loop-term.term-index c.term-item.result c.loop-term.nodes.items c.extend_from_slice.new.self.items c.nodes.result.now
    c.loop-term-test.true c.term-item.is c.loop-term.invariant c.nodes.ensures c.in_ok-extend_from_slice.ensures.items
