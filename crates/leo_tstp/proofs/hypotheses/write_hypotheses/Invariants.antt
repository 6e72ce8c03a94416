use Rattle.std.proofs.Common.{◌≡◌, ◌++◌, map, drop}
use Rattle.leo_kernel.specs.Steps.{line_at}
use Rattle.leo_tstp.specs.Namings.{words_in}
use Rattle.leo_tstp.specs.Derivations.{given_at, hypotheses_text}
use Rattle.leo_tstp.proofs.hypotheses.write_hypotheses.Given as goal

abbrev pub invariant-loop-number : goal.invariant-loop-number
invariant-loop-number l =
    l.out.items ++ hypotheses_text (words_in l.bank l.namer) (map (line_at l.bank) l.lines) l.number (map (given_at l.bank) (drop l.number l.hyps))
    ≡ l.fn.out.items ++ hypotheses_text (words_in l.bank l.namer) (map (line_at l.bank) l.lines) 0 (map (given_at l.bank) l.hyps)
