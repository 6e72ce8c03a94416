use Rattle.std.proofs.Common.{sym}
use Rattle.leo_elab.specs.Typings.{IsFirstOffence}
use Rattle.leo_problem.specs.Theories.{typings}
use Rattle.leo_problem.proofs.Assumed.{typing-stands}
use Rattle.leo_problem.proofs.typed.refused_typings.Goals as goal

pub unreachable-requires : goal.unreachable-requires
unreachable-requires c =
    let o : IsFirstOffence (typings c.args.kept.now) c.in-Offends.place c.in-Offends.refusal = rw c.in-Offends.is at c.requires in
    typing-stands c.args.kept.now c.in-Offends.place o.typing o.stands (sym c.in-None.ensures)
