use Rattle.leo_kernel.proofs.Defining.{fresh-decides}
use Rattle.leo_kernel.proofs.Definitions.{not-false}
use Rattle.leo_kernel.proofs.symbols.may_be_defined.Goals as goal

pub returns-in_ok-may-in-Some : goal.returns-in_ok-may-in-Some
returns-in_ok-may-in-Some c = fresh-decides c.args.bank.now c.args.symbol c.args.lits.now c.in-Some.lit c.in-Some.ensures (not-false c.in-Some.lit.pos c.if-not-lit.false) c.is_symbol.result c.is_symbol.ensures c.if-not-is_symbol.false c.in_ok-may-in-Some.may c.in_ok-may-in-Some.ensures
