use Rattle.std.proofs.Common.{length}
use Rattle.leo_terms.specs.Contents.{Extends}
use Rattle.leo_tstp.specs.Built.{AreStepsRead, IsNumbering}
use Rattle.leo_tstp.specs.NewSymbols.{IsRising, introduced}
use Rattle.leo_tstp.proofs.text.lines.Given as goal

abbrev pub invariant-loop-number : goal.invariant-loop-number
invariant-loop-number l = record {
  numbering : IsNumbering l.bank l.numbers;
  read : AreStepsRead l.bank l.steps.items;
  new : IsRising (length l.fn.bank.symbols) (introduced l.steps.items) (length l.bank.symbols);
  grows : Extends l.fn.bank l.bank;
}
