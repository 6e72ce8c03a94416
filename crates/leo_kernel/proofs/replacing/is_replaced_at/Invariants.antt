use Rattle.std.proofs.Common.{◌≡◌, ◌<◌, length, drop}
use Rattle.std.specs.Prelude.{◌↔◌}
use Rattle.leo_terms.specs.Contents.{tree_at}
use Rattle.leo_kernel.specs.Conditions.{LeadsTo}
use Rattle.leo_kernel.specs.Places.{replaced_at}
use Rattle.leo_kernel.proofs.replacing.is_replaced_at.Given as goal

abbrev pub invariant-loop-number : goal.invariant-loop-number
invariant-loop-number l = (l.old_at < length l.bank.terms) × (l.new_at < length l.bank.terms) × LeadsTo (drop l.number-index l.path) (tree_at l.bank l.old_at) × ((tree_at l.bank l.fn.new ≡ replaced_at l.path (tree_at l.bank l.r) (tree_at l.bank l.fn.t)) ↔ (tree_at l.bank l.new_at ≡ replaced_at (drop l.number-index l.path) (tree_at l.bank l.r) (tree_at l.bank l.old_at)))
