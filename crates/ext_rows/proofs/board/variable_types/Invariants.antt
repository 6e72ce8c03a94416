use Rattle.leo_clause.specs.Typed.{AreTypesOf}
use Rattle.ext_rows.proofs.board.variable_types.Given as goal

abbrev pub invariant-loop-letter : goal.invariant-loop-letter
invariant-loop-letter l = AreTypesOf l.bank l.vars
