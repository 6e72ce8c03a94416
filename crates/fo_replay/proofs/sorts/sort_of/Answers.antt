use Rattle.std.proofs.Common.{sym, ◌∙◌, ap, length}
use Rattle.fo_replay.proofs.SortsOfNodes.{sort_by_node, no_nodes}
use Rattle.fo_replay.proofs.sorts.sort_of.Goals as goal

pub returns-in-None : goal.returns-in-None
returns-in-None c = no_nodes c.args.vars.now c.args.syms.now c.args.term.now (ap length (sym c.nodes.ensures) ∙ c.in-None.ensures.cases)

pub returns-in-Some : goal.returns-in-Some
returns-in-Some c = sort_by_node c.args.vars.now c.args.syms.now c.args.term.now c.in-Some.node.now c.in-Some._others.now c.result_of.result (sym c.nodes.ensures ∙ c.in-Some.ensures.cases.0) c.result_of.ensures
