use Rattle.std.proofs.Common.{◌≡◌, ◌≤◌, ◌*◌, ◌^◌, take}
use Rattle.std.specs.Prelude.{sum_by}
use Rattle.fo_replay.specs.Replays.{literal_weight}
use Rattle.fo_super.proofs.weights.weight.Given as goal

abbrev pub invariant-loop-literal : goal.invariant-loop-literal
invariant-loop-literal l = (l.weight ≡ sum_by literal_weight (take l.literal-index l.clause.lits)) × (l.weight ≤ l.literal-index * 2 ^ 66)
