use Rattle.std.proofs.Common.{List, take, true}
use Rattle.std.specs.Prelude.{flat_map}
use Rattle.fo_super.specs.Members.{with_sign}
use Rattle.fo_text.specs.declared.problem.FoClause.{FoClause}
use Rattle.fo_super.specs.Sifting.{AreListed, of_literal}
use Rattle.fo_super.proofs.candidates.list_factorings.Given as goal

abbrev pub invariant-loop-place : goal.invariant-loop-place
invariant-loop-place l = (clauses : List FoClause) → AreListed clauses (flat_map (of_literal l.number l.clause.lits) (with_sign true (take l.place l.literals))) l.fn.out l.out
