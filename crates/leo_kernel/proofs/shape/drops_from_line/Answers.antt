use Rattle.leo_kernel.proofs.Lookups.{step-there, clause-there, literal-within}
use Rattle.leo_kernel.proofs.shape.drops_from_line.Goals as goal

pub drops-requires-clause-parent : goal.drops-requires-clause-parent
drops-requires-clause-parent c = (step-there c.args.bank.now c.args.lines.now c.args.parent c.index-lines-parent.result c.requires.line c.index-lines-parent.is c.requires.lines).clause_of

pub drops-requires-clause-place : goal.drops-requires-clause-place
drops-requires-clause-place c = literal-within c.args.bank.now c.args.lines.now c.args.parent c.index-lines-parent.result c.requires.line c.index-lines-parent.is c.args.place c.requires.literal

pub returns : goal.returns
returns c = rw (c.literal-lit.ensures.reads, clause-there c.args.bank.now c.args.lines.now c.args.parent c.index-lines-parent.result c.requires.line c.index-lines-parent.is) c.drops.ensures
