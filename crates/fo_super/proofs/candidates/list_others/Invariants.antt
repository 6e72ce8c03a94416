use Rattle.std.proofs.Common.{List, take}
use Rattle.fo_text.specs.declared.problem.FoClause.{FoClause}
use Rattle.fo_super.specs.Sifting.{AreListed, with_others}
use Rattle.fo_super.proofs.candidates.list_others.Given as goal

abbrev pub invariant-loop-place : goal.invariant-loop-place
invariant-loop-place l = (clauses : List FoClause) → AreListed clauses (with_others l.number l.first l.side (take l.place l.literals)) l.fn.out l.out
