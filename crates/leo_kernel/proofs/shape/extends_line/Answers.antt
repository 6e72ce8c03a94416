use Rattle.leo_kernel.proofs.Lookups.{step-there, clause-there, literal-within}
use Rattle.leo_kernel.proofs.ShapeRules.{func_ext-there}
use Rattle.leo_kernel.proofs.shape.extends_line.Goals as goal

pub extends_functions-requires-clause-parent : goal.extends_functions-requires-clause-parent
extends_functions-requires-clause-parent c = (step-there c.args.bank.now c.args.lines.now c.args.parent c.index-lines-parent.result c.requires.line c.index-lines-parent.is c.requires.lines).clause_of

pub extends_functions-requires-clause-place : goal.extends_functions-requires-clause-place
extends_functions-requires-clause-place c = literal-within c.args.bank.now c.args.lines.now c.args.parent c.index-lines-parent.result c.requires.line c.index-lines-parent.is c.args.place c.requires.literal

pub extends_functions-requires-clause-functions : goal.extends_functions-requires-clause-functions
extends_functions-requires-clause-functions c = (rw c.literal-lit.ensures.reads at c.requires.functions).0

pub extends_functions-requires-clause-same_type : goal.extends_functions-requires-clause-same_type
extends_functions-requires-clause-same_type c = (rw c.literal-lit.ensures.reads at c.requires.functions).1

pub returns-clause-value : goal.returns-clause-value
returns-clause-value c = func_ext-there _ _ _ _ _ c.args.place c.args.abbr _ c.in_ok-holds.holds c.literal-lit.ensures.reads (clause-there c.args.bank.now c.args.lines.now c.args.parent c.index-lines-parent.result c.requires.line c.index-lines-parent.is) c.in_ok-holds.ensures.value
