use Rattle.std.proofs.Common.{length}
use Rattle.fo_terms.specs.Prefix.{term_of, IsPrefix}
use Rattle.fo_kbo.specs.Difference.{IsLevel}
use Rattle.fo_kbo.proofs.descent.compare_different.Given as goal

abbrev pub invariant-loop-found : goal.invariant-loop-found
invariant-loop-found l = IsPrefix l.left × IsPrefix l.right × IsLevel (term_of l.first) (term_of l.second) (term_of l.left) (term_of l.right) l.may_be_greater l.may_be_less

abbrev pub decreases-loop-found : goal.decreases-loop-found
decreases-loop-found l = length l.left
