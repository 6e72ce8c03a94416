use Rattle.std.proofs.Common.{ℕ, ◌≤◌}
use Rattle.fo_kbo.specs.Tallies.{IsTally}
use Rattle.fo_kbo.proofs.tally.Tally.extend.Given as goal

abbrev pub invariant-loop-at : goal.invariant-loop-at
invariant-loop-at l = (a : ℕ) → a ≤ l.from → IsTally l.nodes a l.from l.initial.self → IsTally l.nodes a l.at l.self
