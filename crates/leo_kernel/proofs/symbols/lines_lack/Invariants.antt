use Rattle.std.proofs.Common.{take}
use Rattle.leo_clause.specs.declared.record.StepRecord.{StepRecord}
use Rattle.leo_kernel.proofs.Lists.{Each}
use Rattle.leo_kernel.proofs.LinesLacking.{LineLacks}
use Rattle.leo_kernel.proofs.symbols.lines_lack.Given as goal

abbrev pub invariant-loop-line : goal.invariant-loop-line
invariant-loop-line l = Each (λ (r : StepRecord). LineLacks l.bank l.symbol r) (take l.line-index l.lines)
