use Rattle.leo_kernel.proofs.Lookups.{step-there, clause-there, literal-within}
use Rattle.leo_kernel.proofs.shape.splits_line.Goals as goal

pub is_bool_case-requires-clause-parent : goal.is_bool_case-requires-clause-parent
is_bool_case-requires-clause-parent c = (step-there c.args.bank.now c.args.lines.now c.args.parent c.index-lines-parent.result c.requires.line c.index-lines-parent.is c.requires.lines).clause_of

pub is_bool_case-requires-clause-place : goal.is_bool_case-requires-clause-place
is_bool_case-requires-clause-place c = literal-within c.args.bank.now c.args.lines.now c.args.parent c.index-lines-parent.result c.requires.line c.index-lines-parent.is c.args.place c.requires.literal

pub returns : goal.returns
returns c = rw (c.literal-lit.ensures.reads, clause-there c.args.bank.now c.args.lines.now c.args.parent c.index-lines-parent.result c.requires.line c.index-lines-parent.is) c.is_bool_case.ensures
