use Rattle.std.proofs.Common.{ℕ, [], take}
use Rattle.leo_terms.specs.Contents.{tree_at}
use Rattle.leo_kernel.specs.declared.leaves.LeafTest.TheVariants.{Lacks}
use Rattle.leo_kernel.specs.Symbols.{LacksSymbol}
use Rattle.leo_kernel.specs.Visits.{HavePassed}
use Rattle.leo_kernel.proofs.Lists.{Each}
use Rattle.leo_kernel.proofs.symbols.terms_lack.Given as goal

abbrev pub invariant-loop-t : goal.invariant-loop-t
invariant-loop-t l = Each (λ (t : ℕ). LacksSymbol l.symbol (tree_at l.bank t)) (take l.t-index l.terms) × HavePassed l.bank (Lacks l.symbol) [] l.visited.keys
