use Rattle.conclude_rows.proofs.Ready.{are_ready-later}
use Rattle.conclude_rows.proofs.reading.term_of.Goals as goal

pub returns-in-84-clause-rest : goal.returns-in-84-clause-rest
returns-in-84-clause-rest c = are_ready-later c.logic_term.ensures.grows c.args.stack.now c.requires.stack

pub returns-in-70-clause-rest : goal.returns-in-70-clause-rest
returns-in-70-clause-rest c = are_ready-later c.logic_term-in-70.ensures.grows c.args.stack.now c.requires.stack

pub returns-in-120-clause-rest : goal.returns-in-120-clause-rest
returns-in-120-clause-rest c = are_ready-later c.index.ensures.grows c.args.stack.now c.requires.stack

pub returns-in-121-clause-rest : goal.returns-in-121-clause-rest
returns-in-121-clause-rest c = are_ready-later c.index-in-121.ensures.grows c.args.stack.now c.requires.stack

pub returns-in-48-to-57-clause-rest : goal.returns-in-48-to-57-clause-rest
returns-in-48-to-57-clause-rest c = are_ready-later c.variable.ensures.grows c.args.stack.now c.requires.stack

pub returns-in_default-clause-rest : goal.returns-in_default-clause-rest
returns-in_default-clause-rest c = are_ready-later c.symbol.ensures.grows c.args.stack.now c.requires.stack
