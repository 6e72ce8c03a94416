use Rattle.fo_super.proofs.SameTerms.{nodes-decide}
use Rattle.fo_super.proofs.terms.same_nodes.Goals as goal

pub returns : goal.returns
returns c = nodes-decide c.args.one.now c.args.other.now c.eq.result c.eq.ensures
