use Rattle.leo_kernel.proofs.Lookups.{step-there, clause-there, literal-within}
use Rattle.leo_kernel.proofs.shape.factors_line.Goals as goal

pub factors-requires-clause-parent : goal.factors-requires-clause-parent
factors-requires-clause-parent c = (step-there c.args.bank.now c.args.lines.now c.args.parent c.index-lines-parent.result c.requires.line c.index-lines-parent.is c.requires.lines).clause_of

pub factors-requires-clause-place : goal.factors-requires-clause-place
factors-requires-clause-place c = literal-within c.args.bank.now c.args.lines.now c.args.parent c.index-lines-parent.result c.requires.line c.index-lines-parent.is c.args.second c.requires.second

pub returns : goal.returns
returns c = rw (c.literal-one.ensures.reads, c.literal-other.ensures.reads, clause-there c.args.bank.now c.args.lines.now c.args.parent c.index-lines-parent.result c.requires.line c.index-lines-parent.is) c.factors.ensures
