use Rattle.leo_kernel.proofs.Lookups.{step-there, clause-there}
use Rattle.leo_kernel.proofs.shape.instantiates_line.Goals as goal

pub are_instances-requires-clause-old : goal.are_instances-requires-clause-old
are_instances-requires-clause-old c = rw c.as_slice-lits.ensures ((step-there c.args.bank.now c.args.lines.now c.args.parent c.index-lines-parent.result c.requires.line c.index-lines-parent.is c.requires.lines).clause_of.literals_of)

pub are_instances-requires-clause-given : goal.are_instances-requires-clause-given
are_instances-requires-clause-given c = rw c.as_slice-lits.ensures (rw (clause-there c.args.bank.now c.args.lines.now c.args.parent c.index-lines-parent.result c.requires.line c.index-lines-parent.is) at c.requires.given)

pub returns-clause-value : goal.returns-clause-value
returns-clause-value c = rw (clause-there c.args.bank.now c.args.lines.now c.args.parent c.index-lines-parent.result c.requires.line c.index-lines-parent.is, ← c.as_slice-lits.ensures, ← c.as_slice.ensures) c.in_ok-holds.ensures.value
