use Rattle.std.proofs.Common.{ℕ, List, ◌+◌, ◌*◌, ◌-◌, ◌≡◌, ◌≤◌, length}
use Rattle.leo_problem.specs.Pieces.{AreKeptUpTo}
use Rattle.leo_problem.proofs.gathering.+files.Given as goal

abbrev pub decreases-gather : goal.decreases-gather
decreases-gather g l = 4 * (8 - l.place.now.level) + 3

abbrev pub decreases-gather_statements : goal.decreases-gather_statements
decreases-gather_statements g l = 4 * (8 - l.place.now.level) + 2

abbrev pub decreases-gather_statement : goal.decreases-gather_statement
decreases-gather_statement g l = 4 * (8 - l.place.now.level) + 1

abbrev pub decreases-include : goal.decreases-include
decreases-include g l = 4 * (8 - l.place.now.level)

abbrev pub invariant-gather_statements-loop-statement : goal.invariant-gather_statements-loop-statement
invariant-gather_statements-loop-statement g l = record {
  level : l.place.level ≤ 8;
  kept : AreKeptUpTo (g.F.Files.content l.initial.files) l.place.folder l.place.level l.place.file l.fn.list.items l.initial.counts l.counts l.kept.items (length l.yielded);
  stays : (n : List ℕ) → g.F.Files.content l.files n ≡ g.F.Files.content l.initial.files n;
  never_falls : g.F.Files.faults l.initial.files ≤ g.F.Files.faults l.files;
}
