use Rattle.leo_terms.specs.Contents.{Contents}
use Rattle.leo_clause.specs.Typed.{AreTypesOf}
use Rattle.leo_tstp.specs.Built.{IsNumbering}
use Rattle.leo_tstp.proofs.building.records.types_of.Given as goal

abbrev pub invariant-loop-place : goal.invariant-loop-place
invariant-loop-place l = (c : Contents) → IsNumbering c l.numbers → AreTypesOf c l.found.items
