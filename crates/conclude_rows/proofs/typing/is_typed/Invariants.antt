use Rattle.std.proofs.Common.{map, take}
use Rattle.leo_terms.specs.Contents.{type_at}
use Rattle.leo_clause.specs.Trees.{literal_at}
use Rattle.leo_clause.specs.Typed.{AreTyped}
use Rattle.conclude_rows.proofs.typing.is_typed.Given as goal

abbrev pub invariant-loop-lit : goal.invariant-loop-lit
invariant-loop-lit l = AreTyped (map (type_at l.bank) l.clause.vars) (map (literal_at l.bank) (take l.lit-index l.clause.lits))
