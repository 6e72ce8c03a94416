use Rattle.std.proofs.Common.{◌≡◌, ℕ, ◌<◌, []}
use Rattle.leo_passive.specs.Table.{of_list}
use Rattle.leo_passive.proofs.passive.Passive.lightest.Given as goal

abbrev pub invariant-loop-list : goal.invariant-loop-list
invariant-loop-list l = (0 < l.list) × ((k : ℕ) → 0 < k → k < l.list → of_list k l.self ≡ [])
