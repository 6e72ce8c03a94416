use Rattle.fo_super.proofs.Reading.{front-prefix, front-read}
use Rattle.fo_super.proofs.matching.fit_term.Goals as goal

pub fit-requires-clause-pattern : goal.fit-requires-clause-pattern
fit-requires-clause-pattern c = front-prefix c.nodes.result.now c.args.pattern.now c.nodes.ensures

pub fit-requires-clause-nodes : goal.fit-requires-clause-nodes
fit-requires-clause-nodes c = front-prefix c.nodes-2.result.now c.args.term.now c.nodes-2.ensures

pub returns : goal.returns
returns c = rw (front-read c.nodes.result.now c.args.pattern.now c.nodes.ensures, front-read c.nodes-2.result.now c.args.term.now c.nodes-2.ensures) at c.in_ok-fits.ensures
