use Rattle.leo_kernel.specs.Records.{AreStepsOf}
use Rattle.leo_tstp.specs.Records.{AreSymbolsOf}
use Rattle.tstp_rows.proofs.cases.put_rules.Given as goal

abbrev pub invariant-loop-number : goal.invariant-loop-number
invariant-loop-number l = AreStepsOf l.bank l.lines.items × AreSymbolsOf l.bank l.lines.items
