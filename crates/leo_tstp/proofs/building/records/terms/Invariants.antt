use Rattle.std.proofs.Common.{[]}
use Rattle.leo_terms.specs.Contents.{AreTerms, Extends}
use Rattle.leo_tstp.specs.Built.{IsSite}
use Rattle.leo_tstp.proofs.building.records.terms.Given as goal

abbrev pub invariant-loop-parsed : goal.invariant-loop-parsed
invariant-loop-parsed l = record {
  site : IsSite l.bank l.numbers l.variables [];
  terms : AreTerms l.bank l.found;
  grows : Extends l.fn.bank l.bank;
}
