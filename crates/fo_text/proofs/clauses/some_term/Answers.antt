use Rattle.fo_text.proofs.ClauseReading.{some_constant, some_variable, never_constant}
use Rattle.fo_text.proofs.clauses.some_term.Goals as goal

pub returns-then-constant : goal.returns-then-constant
returns-then-constant c = some_constant c.args.vars.now c.args.syms.now (c.requires.0 c.if-constant.true)

pub returns-else-constant : goal.returns-else-constant
returns-else-constant c = rw c.is_empty.ensures (some_variable c.args.vars.now c.args.syms.now (never_constant c.args.constant c.args.syms.now c.if-constant.false c.requires))
