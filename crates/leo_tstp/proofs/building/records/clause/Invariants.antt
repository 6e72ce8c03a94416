use Rattle.std.proofs.Common.{[]}
use Rattle.leo_terms.specs.Contents.{Extends}
use Rattle.leo_tstp.specs.Built.{AreLiteralsBuilt, IsSite}
use Rattle.leo_tstp.proofs.building.records.clause.Given as goal

abbrev pub invariant-loop-parsed : goal.invariant-loop-parsed
invariant-loop-parsed l = record {
  site : IsSite l.bank l.numbers l.variables [];
  built : AreLiteralsBuilt l.bank l.variables l.lits;
  grows : Extends l.fn.bank l.bank;
}
