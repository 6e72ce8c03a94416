use Rattle.std.proofs.Common.{◌≡◌, ◌++◌, map, drop}
use Rattle.leo_kernel.specs.Steps.{line_at}
use Rattle.leo_tstp.specs.Namings.{words_in}
use Rattle.leo_tstp.specs.Derivations.{lines_text}
use Rattle.leo_tstp.proofs.printing.write_lines.Given as goal

abbrev pub invariant-loop-number : goal.invariant-loop-number
invariant-loop-number l =
    l.out.items ++ lines_text (words_in l.bank l.namer) l.number (map (line_at l.bank) (drop l.number l.lines))
    ≡ l.fn.out.items ++ lines_text (words_in l.bank l.fn.namer) 0 (map (line_at l.bank) l.lines)
