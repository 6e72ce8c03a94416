use Rattle.std.proofs.Common.{◌+◌, ◌*◌}
use Rattle.leo_terms.proofs.Measures.{argument_size}
use Rattle.leo_terms.proofs.bank.Bank.+normalize.Given as goal

abbrev pub decreases-normalize : goal.decreases-normalize
decreases-normalize l = 3 * l.t + 2

abbrev pub decreases-normalize_parts : goal.decreases-normalize_parts
decreases-normalize_parts l = 3 * l.t + 1

abbrev pub decreases-normalize_argument : goal.decreases-normalize_argument
decreases-normalize_argument l = argument_size l.x
