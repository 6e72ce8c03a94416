use Rattle.leo_kernel.proofs.Lookups.{step-there, clause-there}
use Rattle.leo_kernel.proofs.asked.may_be_given_line.Goals as goal

pub may_be_given-requires-clause-old : goal.may_be_given-requires-clause-old
may_be_given-requires-clause-old c = rw c.as_slice-old.ensures (step-there c.args.bank.now c.args.lines.now c.args.line c.index-lines-line.result c.requires.line c.index-lines-line.is c.requires.lines).clause_of.types_of

pub may_be_given-requires-clause-lits : goal.may_be_given-requires-clause-lits
may_be_given-requires-clause-lits c = rw c.as_slice-lits.ensures (step-there c.args.bank.now c.args.lines.now c.args.line c.index-lines-line.result c.requires.line c.index-lines-line.is c.requires.lines).clause_of.literals_of

pub returns : goal.returns
returns c = rw (clause-there c.args.bank.now c.args.lines.now c.args.line c.index-lines-line.result c.requires.line c.index-lines-line.is, ← c.as_slice-old.ensures, ← c.as_slice-lits.ensures) c.in_ok-given.ensures
