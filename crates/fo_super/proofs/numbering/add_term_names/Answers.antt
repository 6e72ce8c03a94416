use Rattle.fo_super.proofs.Gathering.{term-named}
use Rattle.fo_super.proofs.numbering.add_term_names.Goals as goal

pub loop-term-preserved : goal.loop-term-preserved
loop-term-preserved c =
    term-named c.args.names.now.items c.loop-term.names.items c.add_names.new.names.items c.args.terms.now c.loop-term.term-index c.term-item.result c.nodes.result.now
    c.loop-term-test.true c.term-item.is c.loop-term.invariant c.nodes.ensures c.in_ok-add_names.ensures
