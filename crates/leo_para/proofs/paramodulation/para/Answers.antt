use Rattle.std.proofs.Common.{length, ◌∙◌, ap}
use Rattle.leo_terms.proofs.CallerLemmas.{extends-itself, extends-trans}
use Rattle.leo_kernel.proofs.Growing.{lits-grow, types-grow}
use Rattle.leo_para.proofs.Listing.{declared-later, due-whole, ready}
use Rattle.leo_para.proofs.paramodulation.para.Goals as goal

pub moved_lits-requires-clause-types : goal.moved_lits-requires-clause-types
moved_lits-requires-clause-types c = rw c.as_slice-2.ensures (types-grow c.members.ensures.grows c.args.into.now.vars c.requires.into.of_bank.types_of)

pub moved_lits-requires-clause-literals : goal.moved_lits-requires-clause-literals
moved_lits-requires-clause-literals c = rw c.as_slice-3.ensures (lits-grow c.members.ensures.grows c.args.into.now.lits c.requires.into.of_bank.literals_of)

pub moved_lits-requires-clause-declared : goal.moved_lits-requires-clause-declared
moved_lits-requires-clause-declared c = rw (c.as_slice-2.ensures, c.as_slice-3.ensures) (declared-later c.members.ensures.grows c.args.into.now c.requires.into)

pub returns-in_err-moved-clause-grows : goal.returns-in_err-moved-clause-grows
returns-in_err-moved-clause-grows c = extends-trans c.members.ensures.grows c.moved_lits.ensures.grows

pub dues_of-requires : goal.dues_of-requires
dues_of-requires c =
    rw (c.as_slice-4.ensures, c.deref.ensures.value)
    (ready c.members.ensures.grows c.moved_lits.ensures.grows c.args.from.now c.args.into.now c.in_ok-moved.moved c.in_ok-found.found.items c.in_ok-first.first c.requires.from c.requires.into
    (c.in_ok-first.ensures ∙ ap length c.as_slice.ensures) c.in_ok-found.ensures.members c.in_ok-moved.ensures.literals_of (rw (c.as_slice-3.ensures) at c.in_ok-moved.ensures.value))

pub returns-in_err-dues-clause-grows : goal.returns-in_err-dues-clause-grows
returns-in_err-dues-clause-grows c = extends-trans (extends-trans c.members.ensures.grows c.moved_lits.ensures.grows) c.dues_of.ensures.grows

pub returns-clause-due : goal.returns-clause-due
returns-clause-due c = due-whole c.members.ensures.grows c.moved_lits.ensures.grows c.dues_of.ensures.grows c.args.from.now c.args.into.now c.requires.from c.requires.into c.in_ok-dues.dues c.in_ok-dues.ensures.done

pub returns-clause-grows : goal.returns-clause-grows
returns-clause-grows c = extends-trans (extends-trans c.members.ensures.grows c.moved_lits.ensures.grows) c.dues_of.ensures.grows

pub returns-then-not-may_meet-clause-grows : goal.returns-then-not-may_meet-clause-grows
returns-then-not-may_meet-clause-grows c = extends-itself c.is_sound.ensures.sound
