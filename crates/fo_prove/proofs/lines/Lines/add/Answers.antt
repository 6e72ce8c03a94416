use Rattle.fo_prove.proofs.lines.Lines.add.Goals as goal

pub add_member-requires-clause-lines : goal.add_member-requires-clause-lines
add_member-requires-clause-lines c = rw (c.as_slice.ensures, c.as_slice-in-Concluded.ensures) (rw c.in-Concluded.is at c.requires.lines)

pub add_member-requires-clause-clauses : goal.add_member-requires-clause-clauses
add_member-requires-clause-clauses c = rw (c.as_slice.ensures, c.as_slice-in-Concluded.ensures) (rw c.in-Concluded.is at c.requires.clauses)
