use Rattle.fo_super.proofs.SameTerms.{read-decides}
use Rattle.fo_super.proofs.matching.has_nodes.Goals as goal

pub returns : goal.returns
returns c = read-decides c.args.term.now c.args.nodes.now c.same_nodes.result c.requires (rw c.nodes.ensures at c.same_nodes.ensures)
