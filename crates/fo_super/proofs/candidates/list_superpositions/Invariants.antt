use Rattle.std.proofs.Common.{List, take}
use Rattle.std.proofs.Common.{◌≡◌, Some, slice_get}
use Rattle.fo_super.specs.Members.{superpositions}
use Rattle.fo_text.specs.declared.problem.FoClause.{FoClause}
use Rattle.fo_super.specs.Sifting.{AreListed}
use Rattle.fo_super.proofs.candidates.list_superpositions.Given as goal

abbrev pub invariant-loop-place : goal.invariant-loop-place
invariant-loop-place l = (clauses : List FoClause) → slice_get clauses l.from ≡ Some l.giver → slice_get clauses l.into ≡ Some l.receiver → AreListed clauses (superpositions l.from (take l.place l.literals) l.into l.receiver.lits) l.fn.out l.out
