use Rattle.leo_kernel.proofs.Lookups.{literal-there, literal-within, sides-within, side-within, leads-decides}
use Rattle.leo_kernel.proofs.conditions.leads_to.Goals as goal

pub subterm-requires : goal.subterm-requires
subterm-requires c =
    let i = literal-within c.args.bank.now c.args.lines.now c.args.line c.index-lines-line.result c.requires.line c.index-lines-line.is c.args.number c.requires.literal in
    rw c.side_of-whole.ensures (side-within c.args.bank.now c.args.side c.index-lits-number.result
    (sides-within c.args.bank.now c.args.lines.now c.args.line c.index-lines-line.result c.requires.line c.index-lines-line.is c.requires.lines c.args.number c.index-lits-number.result i (rw c.as_slice-lits.ensures at c.index-lits-number.is)))

pub returns : goal.returns
returns c =
    let i = literal-within c.args.bank.now c.args.lines.now c.args.line c.index-lines-line.result c.requires.line c.index-lines-line.is c.args.number c.requires.literal in
    leads-decides c.args.bank.now _ c.index-lits-number.result c.args.side c.args.path.now c.side_of-whole.result c.subterm.result
    (literal-there c.args.bank.now c.args.lines.now c.args.line c.index-lines-line.result c.requires.line c.index-lines-line.is c.args.number c.index-lits-number.result i (rw c.as_slice-lits.ensures at c.index-lits-number.is))
    c.side_of-whole.ensures c.subterm.ensures.value c.is_some.result c.is_some.ensures
