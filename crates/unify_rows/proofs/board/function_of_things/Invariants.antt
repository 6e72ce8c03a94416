use Rattle.std.proofs.Common.{◌<◌, length}
use Rattle.leo_terms.specs.Contents.{Extends}
use Rattle.unify_rows.proofs.board.function_of_things.Given as goal

abbrev pub invariant-loop : goal.invariant-loop
invariant-loop l = Extends l.initial.bank l.bank × (l.ty < length l.bank.types)
