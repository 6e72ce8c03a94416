use Rattle.tstp_reads.proofs.telling.printed.Goals as goal

pub print-requires-clause-lines : goal.print-requires-clause-lines
print-requires-clause-lines c = rw c.as_slice.ensures c.in_ok-lines.ensures.steps

pub print-requires-clause-symbols : goal.print-requires-clause-symbols
print-requires-clause-symbols c = rw c.as_slice.ensures c.in_ok-lines.ensures.symbols
