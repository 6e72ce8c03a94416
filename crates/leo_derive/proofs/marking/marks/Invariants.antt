use Rattle.std.proofs.Common.{◌+◌, ◌-◌, map}
use Rattle.leo_kernel.specs.Steps.{line_at}
use Rattle.leo_derive.specs.Marking.{IsMarkedFrom}
use Rattle.leo_derive.specs.Symbols.{AreCollected}
use Rattle.leo_derive.proofs.marking.marks.Given as goal

abbrev pub invariant-loop-passed : goal.invariant-loop-passed
invariant-loop-passed l = AreCollected l.bank l.visited.keys l.symbols.keys × IsMarkedFrom (map (line_at l.bank) l.lines) l.goal (l.goal + 1 - l.passed) l.marks.items l.symbols.keys
