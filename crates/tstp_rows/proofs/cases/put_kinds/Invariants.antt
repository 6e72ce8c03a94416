use Rattle.leo_kernel.specs.Records.{AreStepsOf}
use Rattle.leo_tstp.specs.Records.{AreSymbolsOf}
use Rattle.tstp_rows.proofs.cases.put_kinds.Given as goal

abbrev pub invariant-loop-kind : goal.invariant-loop-kind
invariant-loop-kind l = AreStepsOf l.bank l.lines.items × AreSymbolsOf l.bank l.lines.items
