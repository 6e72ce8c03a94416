use Rattle.std.proofs.Common.{refl, sym}
use Rattle.leo_kernel.proofs.Definitions.{abbreviation-decides, not-false}
use Rattle.leo_kernel.proofs.equations.abbreviates.Goals as goal

pub returns-else-not-lit : goal.returns-else-not-lit
returns-else-not-lit c = abbreviation-decides c.args.bank.now c.args.step.now c.in-Some.lit c.args.symbol (c.if-not-is_empty.ensures.0 refl) (rw c.as_slice.ensures at (sym c.in-Some.ensures)) (not-false c.in-Some.lit.pos c.if-not-lit.false) c.is_symbol.result c.is_symbol.ensures
