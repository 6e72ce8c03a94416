use Rattle.leo_terms.specs.Contents.{Extends}
use Rattle.leo_clause.specs.Typed.{AreLiteralsOf}
use Rattle.conclude_rows.proofs.reading.literals.Given as goal

abbrev pub invariant-loop-text : goal.invariant-loop-text
invariant-loop-text l = Extends l.initial.bank l.bank × AreLiteralsOf l.bank l.lits
