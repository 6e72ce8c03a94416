use Rattle.leo_kernel.specs.Records.{AreStepsOf}
use Rattle.derive_rows.proofs.cases.put_many.Given as goal

abbrev pub invariant-loop : goal.invariant-loop
invariant-loop l = AreStepsOf l.bank l.lines.items
