use Rattle.std.proofs.Common.{◌+◌, ◌*◌}
use Rattle.leo_terms.proofs.Measures.{argument_size}
use Rattle.leo_terms.proofs.bank.Bank.+subst.Given as goal

abbrev pub decreases-subst_under : goal.decreases-subst_under
decreases-subst_under l = 3 * l.t + 1

abbrev pub decreases-subst_argument : goal.decreases-subst_argument
decreases-subst_argument l = argument_size l.x
