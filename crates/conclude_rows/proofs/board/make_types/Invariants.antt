use Rattle.leo_terms.specs.Contents.{Extends}
use Rattle.leo_clause.specs.Typed.{AreTypesOf}
use Rattle.conclude_rows.proofs.board.make_types.Given as goal

abbrev pub invariant-loop-parts : goal.invariant-loop-parts
invariant-loop-parts l = Extends l.initial.bank l.bank × AreTypesOf l.bank l.types
