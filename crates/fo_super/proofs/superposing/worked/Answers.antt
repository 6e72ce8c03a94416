use Rattle.fo_text.specs.declared.answer.FoStep.TheVariants.{Para}
use Rattle.fo_super.proofs.Sorted.{para-sorted}
use Rattle.fo_super.proofs.Worked.{none-worked, worked-found}
use Rattle.fo_super.proofs.superposing.worked.Goals as goal

pub returns-in_default : goal.returns-in_default
returns-in_default c =
    none-worked c.args.sorts c.args.syms.now c.args.clauses.now (Para c.args.from c.args.literal c.args.side c.args.into c.args.place c.args.place_side c.args.path.now) c.args.constraint
    ((rw c.in_default.is at c.in_ok-made.ensures) c.args.sorts)

pub resolved_alone-requires : goal.resolved_alone-requires
resolved_alone-requires c =
    para-sorted c.args.syms.now c.args.clauses.now c.args.from c.args.literal c.args.side c.args.into c.args.place c.args.place_side c.args.path.now c.in-Some.made c.requires.giver c.requires.receiver
    ((rw c.in-Some.is at c.in_ok-made.ensures) c.args.sorts).gives

pub returns : goal.returns
returns c =
    worked-found c.args.sorts c.args.syms.now c.args.clauses.now (Para c.args.from c.args.literal c.args.side c.args.into c.args.place c.args.place_side c.args.path.now) c.args.constraint
    c.in-Some.made ((rw c.in-Some.is at c.in_ok-made.ensures) c.args.sorts) c.in_ok-found.found c.in_ok-found.ensures
