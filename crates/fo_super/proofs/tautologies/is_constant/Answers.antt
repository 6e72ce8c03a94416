use Rattle.fo_terms.specs.Terms.{symbol, none}
use Rattle.fo_super.proofs.SameTerms.{prefix-decides}
use Rattle.fo_super.proofs.tautologies.is_constant.Goals as goal

pub returns : goal.returns
returns c = prefix-decides c.args.term.now (symbol c.args.number none) c.same_nodes.result (rw c.nodes.ensures at c.same_nodes.ensures)
