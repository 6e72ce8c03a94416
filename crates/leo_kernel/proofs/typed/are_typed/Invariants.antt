use Rattle.std.proofs.Common.{map, take}
use Rattle.leo_terms.specs.Contents.{type_at}
use Rattle.leo_clause.specs.declared.clause.Lit.{Lit}
use Rattle.leo_clause.specs.Trees.{literal_at}
use Rattle.leo_clause.specs.Typed.{IsTypedLiteral}
use Rattle.leo_kernel.specs.declared.leaves.LeafTest.TheVariants.{Over}
use Rattle.leo_kernel.specs.Visits.{HavePassed}
use Rattle.leo_kernel.proofs.Lists.{Each}
use Rattle.leo_kernel.proofs.typed.are_typed.Given as goal

abbrev pub invariant-loop-lit : goal.invariant-loop-lit
invariant-loop-lit l = Each (λ (k : Lit). IsTypedLiteral (map (type_at l.bank) l.vars) (literal_at l.bank k)) (take l.lit-index l.lits) × HavePassed l.bank Over l.vars l.visited.keys
