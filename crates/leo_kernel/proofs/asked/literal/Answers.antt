use Rattle.leo_kernel.proofs.Lookups.{literal-there, literal-within, sides-within}
use Rattle.leo_kernel.proofs.asked.literal.Goals as goal

pub returns-clause-reads : goal.returns-clause-reads
returns-clause-reads c = literal-there c.args.bank.now c.args.lines.now c.args.line c.index-lines-line.result c.requires.line c.index-lines-line.is c.args.number c.index-lits-number.result (literal-within c.args.bank.now c.args.lines.now c.args.line c.index-lines-line.result c.requires.line c.index-lines-line.is c.args.number c.requires.literal) (rw c.as_slice-lits.ensures at c.index-lits-number.is)

pub returns-clause-left : goal.returns-clause-left
returns-clause-left c = (sides-within c.args.bank.now c.args.lines.now c.args.line c.index-lines-line.result c.requires.line c.index-lines-line.is c.requires.lines c.args.number c.index-lits-number.result (literal-within c.args.bank.now c.args.lines.now c.args.line c.index-lines-line.result c.requires.line c.index-lines-line.is c.args.number c.requires.literal) (rw c.as_slice-lits.ensures at c.index-lits-number.is)).0

pub returns-clause-right : goal.returns-clause-right
returns-clause-right c = (sides-within c.args.bank.now c.args.lines.now c.args.line c.index-lines-line.result c.requires.line c.index-lines-line.is c.requires.lines c.args.number c.index-lits-number.result (literal-within c.args.bank.now c.args.lines.now c.args.line c.index-lines-line.result c.requires.line c.index-lines-line.is c.args.number c.requires.literal) (rw c.as_slice-lits.ensures at c.index-lits-number.is)).1
