use Rattle.std.proofs.Common.{◌≡◌, ◌++◌, map, take}
use Rattle.leo_clause.specs.Trees.{literal_at}
use Rattle.leo_tstp.specs.Namings.{words_in}
use Rattle.leo_tstp.specs.ClauseTexts.{further_literals}
use Rattle.leo_tstp.proofs.clauses.write_further_literals.Given as goal

abbrev pub invariant-loop-lit : goal.invariant-loop-lit
invariant-loop-lit l = l.out.items ≡ l.fn.out.items ++ further_literals (words_in l.bank l.namer) (map (literal_at l.bank) (take l.lit-index l.lits))
