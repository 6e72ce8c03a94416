use Rattle.std.proofs.Common.{ℕ, ◌≡◌, map, take}
use Rattle.leo_terms.specs.Contents.{type_at, tree_at}
use Rattle.leo_terms.specs.Tree.{type_of}
use Rattle.leo_clause.specs.Typed.{IsOver}
use Rattle.leo_kernel.specs.declared.leaves.LeafTest.TheVariants.{Over}
use Rattle.leo_kernel.specs.Visits.{HavePassed}
use Rattle.leo_kernel.proofs.Pairs.{Pairs}
use Rattle.leo_kernel.proofs.given.are_terms_for.Given as goal

abbrev pub invariant-loop-place : goal.invariant-loop-place
invariant-loop-place l = Pairs (λ (a t : ℕ). (type_of (tree_at l.bank t) ≡ type_at l.bank a) × IsOver (map (type_at l.bank) l.new) 0 (tree_at l.bank t)) (take l.place l.old) (take l.place l.sigma) × HavePassed l.bank Over l.new l.visited.keys
