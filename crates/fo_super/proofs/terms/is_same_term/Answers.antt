use Rattle.fo_super.proofs.SameTerms.{prefix-decides}
use Rattle.fo_super.proofs.terms.is_same_term.Goals as goal

pub returns : goal.returns
returns c = prefix-decides c.args.one.now c.args.other.now c.same_nodes.result (rw (c.nodes.ensures, c.nodes-2.ensures) at c.same_nodes.ensures)
