use Rattle.std.proofs.Common.{◌≡◌, take, map}
use Rattle.fo_replay.specs.Replays.{applied_literal}
use Rattle.fo_replay.specs.Parts.{shift}
use Rattle.fo_replay.proofs.para.moved_literals.Given as goal

abbrev pub invariant-loop-literal : goal.invariant-loop-literal
invariant-loop-literal l = l.list ≡ map (applied_literal (shift l.by)) (take l.literal-index l.literal-items)
