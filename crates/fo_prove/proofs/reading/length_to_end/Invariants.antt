use Rattle.std.proofs.Common.{length, ◌-◌, ◌≤◌}
use Rattle.fo_prove.specs.Reading.{HasNoEndUpTo}
use Rattle.fo_prove.proofs.reading.length_to_end.Given as goal

abbrev pub invariant-loop-done : goal.invariant-loop-done
invariant-loop-done l = record { within : l.done ≤ length l.text; passed : HasNoEndUpTo l.done l.text }

abbrev pub decreases-loop-done : goal.decreases-loop-done
decreases-loop-done l = length l.text - l.done
