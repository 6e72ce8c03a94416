use Rattle.fo_text.specs.declared.answer.FoStep.TheVariants.{Factor}
use Rattle.fo_super.proofs.Sorted.{factor-sorted}
use Rattle.fo_super.proofs.Worked.{none-worked, worked-found}
use Rattle.fo_super.proofs.factoring.worked.Goals as goal

pub returns-in_default : goal.returns-in_default
returns-in_default c =
    none-worked c.args.sorts c.args.syms.now c.args.clauses.now (Factor c.args.number c.args.first c.args.second c.args.side) c.args.place ((rw c.in_default.is at c.in_ok-made.ensures) c.args.sorts)

pub resolved_alone-requires : goal.resolved_alone-requires
resolved_alone-requires c =
    factor-sorted c.args.syms.now c.args.clauses.now c.args.number c.args.first c.args.second c.args.side c.in-Some.made c.requires ((rw c.in-Some.is at c.in_ok-made.ensures) c.args.sorts).gives

pub returns : goal.returns
returns c =
    worked-found c.args.sorts c.args.syms.now c.args.clauses.now (Factor c.args.number c.args.first c.args.second c.args.side) c.args.place c.in-Some.made ((rw c.in-Some.is at c.in_ok-made.ensures) c.args.sorts) c.in_ok-found.found c.in_ok-found.ensures
