use Rattle.std.proofs.Common.{◌+◌, ◌*◌}
use Rattle.leo_terms.specs.Contents.{type_number}
use Rattle.leo_terms.proofs.bank.Bank.+expand.Given as goal

abbrev pub decreases-expand : goal.decreases-expand
decreases-expand l = 2 * type_number l.self.now l.t + 1

abbrev pub decreases-expand_parts : goal.decreases-expand_parts
decreases-expand_parts l = 2 * type_number l.self.now l.t
