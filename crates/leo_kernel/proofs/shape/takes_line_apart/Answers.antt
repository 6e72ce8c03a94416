use Rattle.leo_kernel.proofs.Lookups.{step-there, clause-there, literal-within}
use Rattle.leo_kernel.proofs.shape.takes_line_apart.Goals as goal

pub takes_apart-requires-clause-parent : goal.takes_apart-requires-clause-parent
takes_apart-requires-clause-parent c = (step-there c.args.bank.now c.args.lines.now c.args.parent c.index-lines-parent.result c.requires.line c.index-lines-parent.is c.requires.lines).clause_of

pub takes_apart-requires-clause-place : goal.takes_apart-requires-clause-place
takes_apart-requires-clause-place c = literal-within c.args.bank.now c.args.lines.now c.args.parent c.index-lines-parent.result c.requires.line c.index-lines-parent.is c.args.place c.requires.literal

pub returns-clause-value : goal.returns-clause-value
returns-clause-value c = rw (c.literal-lit.ensures.reads, clause-there c.args.bank.now c.args.lines.now c.args.parent c.index-lines-parent.result c.requires.line c.index-lines-parent.is) c.in_ok-holds.ensures.value
