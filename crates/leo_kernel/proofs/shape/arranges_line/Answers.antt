use Rattle.leo_kernel.proofs.Lookups.{step-there, clause-there}
use Rattle.leo_kernel.proofs.shape.arranges_line.Goals as goal

pub arranges-requires-clause-parent : goal.arranges-requires-clause-parent
arranges-requires-clause-parent c = (step-there c.args.bank.now c.args.lines.now c.args.parent c.index-lines-parent.result c.requires.line c.index-lines-parent.is c.requires.lines).clause_of

pub returns : goal.returns
returns c = rw (clause-there c.args.bank.now c.args.lines.now c.args.parent c.index-lines-parent.result c.requires.line c.index-lines-parent.is) c.arranges.ensures
