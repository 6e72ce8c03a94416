use Rattle.std.proofs.Common.{[], take}
use Rattle.leo_terms.specs.Contents.{tree_at}
use Rattle.leo_clause.specs.declared.clause.Lit.{Lit}
use Rattle.leo_kernel.specs.declared.leaves.LeafTest.TheVariants.{Lacks}
use Rattle.leo_kernel.specs.Symbols.{LacksSymbol}
use Rattle.leo_kernel.specs.Visits.{HavePassed}
use Rattle.leo_kernel.proofs.Lists.{Each}
use Rattle.leo_kernel.proofs.symbols.lits_lack.Given as goal

abbrev pub invariant-loop-lit : goal.invariant-loop-lit
invariant-loop-lit l = Each (λ (k : Lit). LacksSymbol l.symbol (tree_at l.bank k.left) × LacksSymbol l.symbol (tree_at l.bank k.right)) (take l.lit-index l.lits) × HavePassed l.bank (Lacks l.symbol) [] l.visited.keys
