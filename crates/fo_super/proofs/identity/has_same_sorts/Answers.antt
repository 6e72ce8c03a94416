use Rattle.fo_super.proofs.Sorting.{nodes-decide-sorts}
use Rattle.fo_super.proofs.identity.has_same_sorts.Goals as goal

pub returns : goal.returns
returns c = nodes-decide-sorts c.args.vars.now c.args.others.now c.args.term.now c.have_node_same_sorts.result (rw c.nodes.ensures at c.have_node_same_sorts.ensures)
