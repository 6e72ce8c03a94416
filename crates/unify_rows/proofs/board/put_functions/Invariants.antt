use Rattle.leo_terms.specs.Contents.{Extends}
use Rattle.leo_clause.specs.Typed.{AreTypesOf}
use Rattle.unify_rows.proofs.board.put_functions.Given as goal

abbrev pub invariant-loop-count : goal.invariant-loop-count
invariant-loop-count l = Extends l.initial.bank l.bank × AreTypesOf l.bank l.types
