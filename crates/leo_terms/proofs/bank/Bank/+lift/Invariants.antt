use Rattle.std.proofs.Common.{◌+◌, ◌*◌}
use Rattle.leo_terms.proofs.Measures.{argument_size}
use Rattle.leo_terms.proofs.bank.Bank.+lift.Given as goal

abbrev pub decreases-lift_from : goal.decreases-lift_from
decreases-lift_from l = 3 * l.t + 2

abbrev pub decreases-lift_parts : goal.decreases-lift_parts
decreases-lift_parts l = 3 * l.t + 1

abbrev pub decreases-lift_argument : goal.decreases-lift_argument
decreases-lift_argument l = argument_size l.x
