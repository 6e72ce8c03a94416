use Rattle.leo_kernel.proofs.Lists.{get-index}
use Rattle.leo_para.proofs.Joined.{by-typed, conclusion-made, lit-at}
use Rattle.leo_para.proofs.concluding.conclusion.Goals as goal

pub constraint-last-requires-clause-place : goal.constraint-last-requires-clause-place
constraint-last-requires-clause-place c =
    lit-at c.args.bank.now c.args.moved.now c.requires.moved c.args.member.now.place c.index-moved-member.result (get-index c.args.moved.now c.args.member.now.place c.index-moved-member.result c.requires.fits.place c.index-moved-member.is)

pub constraint-last-requires-clause-leads : goal.constraint-last-requires-clause-leads
constraint-last-requires-clause-leads c = c.requires.fits.leads c.index-moved-member.result (get-index c.args.moved.now c.args.member.now.place c.index-moved-member.result c.requires.fits.place c.index-moved-member.is)

pub replaced_in-requires-clause-lit : goal.replaced_in-requires-clause-lit
replaced_in-requires-clause-lit c =
    lit-at c.args.bank.now c.args.moved.now c.requires.moved c.args.member.now.place c.index-moved-member.result (get-index c.args.moved.now c.args.member.now.place c.index-moved-member.result c.requires.fits.place c.index-moved-member.is)

pub replaced_in-requires-clause-typed : goal.replaced_in-requires-clause-typed
replaced_in-requires-clause-typed c =
    rw c.as_slice.ensures
    (by-typed c.args.bank.now c.args.member.now c.index-moved-member.result c.other_side_of-by.result c.other_side_of-by.ensures
    (c.requires.fits.leads c.index-moved-member.result (get-index c.args.moved.now c.args.member.now.place c.index-moved-member.result c.requires.fits.place c.index-moved-member.is)))

pub returns-clause-made : goal.returns-clause-made
returns-clause-made c =
    conclusion-made c.replaced_in.ensures.grows c.args.from.now c.args.into.now c.args.moved.now c.args.member.now c.index-moved-member.result c.in_ok-new.new c.constraint-last.result c.other_side_of-by.result c.in_ok-vars.vars c.in_ok-lits.lits
    c.requires.from c.requires.types c.requires.moved c.requires.fits.equation c.requires.fits.literal c.requires.fits.place
    (get-index c.args.moved.now c.args.member.now.place c.index-moved-member.result c.requires.fits.place c.index-moved-member.is)
    c.constraint-last.ensures.made c.other_side_of-by.ensures (rw c.as_slice.ensures at c.in_ok-new.ensures.made)
    (rw (c.as_slice-2.ensures, c.as_slice-3.ensures) at c.in_ok-vars.ensures) (rw c.as_slice-4.ensures at c.in_ok-lits.ensures)
