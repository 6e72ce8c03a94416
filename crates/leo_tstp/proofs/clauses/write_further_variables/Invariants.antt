use Rattle.std.proofs.Common.{◌≡◌, ◌++◌, ◌+◌, map, drop}
use Rattle.leo_terms.specs.Contents.{type_at}
use Rattle.leo_tstp.specs.Namings.{words_in}
use Rattle.leo_tstp.specs.ClauseTexts.{further_variables}
use Rattle.leo_tstp.proofs.clauses.write_further_variables.Given as goal

abbrev pub invariant-loop-place : goal.invariant-loop-place
invariant-loop-place l =
    l.out.items ++ further_variables (words_in l.bank l.namer) (l.place + 1) (map (type_at l.bank) (drop l.place l.types)) ≡ l.fn.out.items ++ further_variables (words_in l.bank l.namer) 1 (map (type_at l.bank) l.types)
