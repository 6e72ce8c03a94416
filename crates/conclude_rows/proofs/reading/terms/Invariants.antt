use Rattle.leo_terms.specs.Contents.{Extends}
use Rattle.conclude_rows.specs.Stacks.{AreReady}
use Rattle.conclude_rows.proofs.reading.terms.Given as goal

abbrev pub invariant-loop-byte : goal.invariant-loop-byte
invariant-loop-byte l = Extends l.initial.bank l.bank × AreReady l.bank l.stack
