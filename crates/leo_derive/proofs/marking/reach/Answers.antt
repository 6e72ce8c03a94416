use Rattle.std.proofs.Common.{subst, sym, refl}
use Rattle.leo_kernel.specs.Steps.{line_at}
use Rattle.leo_derive.specs.Marking.{IsReached}
use Rattle.leo_derive.proofs.Marked.{now_reached}
use Rattle.leo_derive.proofs.marking.reach.Goals as goal

pub returns-then-abbreviates_one : goal.returns-then-abbreviates_one
returns-then-abbreviates_one c lines number order stands marked =
    let found = c.if-abbreviates_one.ensures.yes refl in
    let l = line_at c.args.bank.now c.args.line.now in
    subst (λ marks. IsReached lines number c.args.number l marks c.args.symbols.now.keys) (sym c.mark.ensures)
    (now_reached lines number c.args.number order l stands c.args.marks.now.items c.args.symbols.now.keys found.0 c.requires marked found.1 found.2)
