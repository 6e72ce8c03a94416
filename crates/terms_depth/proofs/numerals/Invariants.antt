use Rattle.std.proofs.Common.{◌<◌, length}
use Rattle.terms_depth.proofs.numerals.Given as goal

abbrev pub invariant-loop : goal.invariant-loop
invariant-loop l = record {
  square : l.square < length l.bank.terms;
  number : l.t < length l.bank.terms;
}
