use Rattle.std.proofs.Common.{◌≡◌, ◌-◌}
use Rattle.leo_turn.specs.Changing.{AreThere, without_range}
use Rattle.leo_turn.proofs.marks.take_out.Given as goal

abbrev pub invariant-loop-number : goal.invariant-loop-number
invariant-loop-number l = AreThere l.number (l.end - l.number) l.passive × (without_range l.number (l.end - l.number) l.passive ≡ without_range l.first (l.end - l.first) l.initial.passive)
