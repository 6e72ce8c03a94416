use Rattle.std.proofs.Common.{List, take}
use Rattle.std.proofs.Common.{◌≡◌, Some, slice_get}
use Rattle.fo_text.specs.declared.problem.FoClause.{FoClause}
use Rattle.fo_super.specs.Sifting.{AreListed, into_clause, StandsIn}
use Rattle.fo_super.proofs.candidates.list_clause.Given as goal

abbrev pub invariant-loop-place : goal.invariant-loop-place
invariant-loop-place l = (clauses : List FoClause) → StandsIn clauses l.from.clause l.from.literal l.equation → slice_get clauses l.into ≡ Some l.receiver → AreListed clauses (into_clause l.from.clause l.from.literal l.from.side l.into (take l.place l.literals)) l.fn.out l.out
