use Rattle.std.proofs.Common.{List, take}
use Rattle.fo_super.specs.Members.{resolutions}
use Rattle.fo_text.specs.declared.problem.FoClause.{FoClause}
use Rattle.fo_super.specs.Sifting.{AreListed}
use Rattle.fo_super.proofs.candidates.list_resolutions.Given as goal

abbrev pub invariant-loop-place : goal.invariant-loop-place
invariant-loop-place l = (clauses : List FoClause) → AreListed clauses (resolutions l.number (take l.place l.literals)) l.fn.out l.out
