use Rattle.std.proofs.Common.{take}
use Rattle.leo_keep.specs.Fronts.{AreFronts}
use Rattle.keep_rows.proofs.asking.fronts_of.Given as goal

abbrev pub invariant-loop-clause : goal.invariant-loop-clause
invariant-loop-clause l = AreFronts l.bank (take l.clause-index l.clauses) l.fronts
