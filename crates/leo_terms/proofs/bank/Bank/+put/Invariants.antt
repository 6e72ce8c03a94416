use Rattle.std.proofs.Common.{◌+◌, ◌*◌, ◌^◌}
use Rattle.leo_terms.specs.Contents.{type_number}
use Rattle.leo_terms.proofs.Measures.{argument_size}
use Rattle.leo_terms.proofs.bank.Bank.+put.Given as goal

-- first the type of what is put in, and then the term that it is put into
abbrev pub decreases-put : goal.decreases-put
decreases-put l = type_number l.self.now l.s * 2 ^ 66 + (3 * l.t + 2)

abbrev pub decreases-put_parts : goal.decreases-put_parts
decreases-put_parts l = type_number l.self.now l.s * 2 ^ 66 + (3 * l.t + 1)

abbrev pub decreases-put_argument : goal.decreases-put_argument
decreases-put_argument l = type_number l.self.now l.s * 2 ^ 66 + argument_size l.x
