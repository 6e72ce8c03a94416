use Rattle.fo_text.proofs.TermReading.{the_term, the_same}
use Rattle.fo_text.proofs.terms.term.Goals as goal

pub unreachable-requires : goal.unreachable-requires
unreachable-requires c =
    let t = the_term c.args.names.vars.now c.args.names.syms.now c.args.want c.in_ok-nodes.nodes.items c.in_ok-nodes.ensures.takes in
    c.in-None.ensures.refused t.0 t.2

pub returns-clause-term : goal.returns-clause-term
returns-clause-term c = the_same c.args.names.vars.now c.args.names.syms.now c.args.want c.in_ok-nodes.nodes.items c.in-Some.found c.in_ok-nodes.ensures.takes c.in-Some.ensures.read
