use Rattle.leo_terms.proofs.CallerLemmas.{extends-itself}
use Rattle.leo_clause.specs.Trees.{clause_at}
use Rattle.conclude_rows.proofs.Overs.{constraints-of, numbers-of}
use Rattle.conclude_rows.proofs.Ready.{recorded}
use Rattle.conclude_rows.proofs.asking.concluded.Goals as goal

pub returns-then-not-is_typed-clause-grows : goal.returns-then-not-is_typed-clause-grows
returns-then-not-is_typed-clause-grows c = extends-itself c.is_sound.ensures.sound

pub returns-then-not-are_constraints-clause-grows : goal.returns-then-not-are_constraints-clause-grows
returns-then-not-are_constraints-clause-grows c = extends-itself c.is_sound.ensures.sound

pub conclusions-requires-clause-clause : goal.conclusions-requires-clause-clause
conclusions-requires-clause-clause c = c.if-not-is_typed.ensures

pub conclusions-requires-clause-numbers : goal.conclusions-requires-clause-numbers
conclusions-requires-clause-numbers c = numbers-of c.args.clause.now.lits c.args.constraints.now c.if-not-are_constraints.ensures

pub conclusions-requires-clause-constraints : goal.conclusions-requires-clause-constraints
conclusions-requires-clause-constraints c = constraints-of c.args.bank.now c.args.clause.now.lits c.args.constraints.now c.if-not-are_constraints.ensures

pub returns-clause-recorded : goal.returns-clause-recorded
returns-clause-recorded c = recorded c.conclusions.new.bank (clause_at c.args.bank.now c.args.clause.now) c.in_ok-found.found c.in_ok-found.ensures.each
