use Rattle.leo_clause.specs.Typed.{AreTypesOf}
use Rattle.conclude_rows.proofs.board.variable_types.Given as goal

abbrev pub invariant-loop-digit : goal.invariant-loop-digit
invariant-loop-digit l = AreTypesOf l.bank l.vars
