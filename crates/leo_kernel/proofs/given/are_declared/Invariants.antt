use Rattle.std.proofs.Common.{◌≡◌, map, take, true}
use Rattle.leo_terms.specs.Contents.{type_at, tree_at}
use Rattle.leo_clause.specs.declared.clause.Lit.{Lit}
use Rattle.leo_kernel.specs.declared.leaves.LeafTest.TheVariants.{Declared}
use Rattle.leo_kernel.specs.Leaves.{leaves_pass}
use Rattle.leo_kernel.specs.Visits.{HavePassed}
use Rattle.leo_kernel.proofs.Lists.{Each}
use Rattle.leo_kernel.proofs.given.are_declared.Given as goal

abbrev pub invariant-loop-lit : goal.invariant-loop-lit
invariant-loop-lit l = Each (λ (k : Lit). (leaves_pass Declared (map (type_at l.bank) l.vars) 0 (tree_at l.bank k.left) ≡ true) × (leaves_pass Declared (map (type_at l.bank) l.vars) 0 (tree_at l.bank k.right) ≡ true)) (take l.lit-index l.lits) × HavePassed l.bank Declared l.vars l.visited.keys
