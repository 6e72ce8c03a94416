use Rattle.leo_kernel.proofs.Lookups.{step-there, clause-there}
use Rattle.leo_kernel.proofs.shape.converts_line.Goals as goal

pub converts-requires-clause-parent : goal.converts-requires-clause-parent
converts-requires-clause-parent c = (step-there c.args.bank.now c.args.lines.now c.args.parent c.index-lines-parent.result c.requires.line c.index-lines-parent.is c.requires.lines).clause_of

pub returns-clause-value : goal.returns-clause-value
returns-clause-value c = rw (clause-there c.args.bank.now c.args.lines.now c.args.parent c.index-lines-parent.result c.requires.line c.index-lines-parent.is) c.in_ok-holds.ensures.value
