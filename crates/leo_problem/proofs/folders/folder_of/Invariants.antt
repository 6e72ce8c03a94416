use Rattle.std.proofs.Common.{◌≡◌, ◌≤◌, length, take}
use Rattle.leo_problem.specs.Gathering.{folder_of}
use Rattle.leo_problem.proofs.folders.folder_of.Given as goal

abbrev pub invariant-loop-len : goal.invariant-loop-len
invariant-loop-len l = record { within : l.len ≤ length l.name; same : folder_of (take l.len l.name) ≡ folder_of l.name }

abbrev pub decreases-loop-len : goal.decreases-loop-len
decreases-loop-len l = l.len
