use Rattle.std.proofs.Common.{refl, ◌∙◌}
use Rattle.leo_terms.proofs.CallerLemmas.{extends-itself, extends-trans}
use Rattle.leo_ext.proofs.ChoiceMembers.{instance-made, property-grow, truths-kept}
use Rattle.leo_ext.proofs.choice.instance.Goals as goal

pub returns-in_err-number-clause-grows : goal.returns-in_err-number-clause-grows
returns-in_err-number-clause-grows c = extends-itself c.is_sound.ensures.sound

pub chosen_lits-requires-clause-truths : goal.chosen_lits-requires-clause-truths
chosen_lits-requires-clause-truths c = truths-kept c.make_var.ensures.grows c.args.truths.now c.requires.truths

pub chosen_lits-requires-clause-property : goal.chosen_lits-requires-clause-property
chosen_lits-requires-clause-property c = property-grow c.make_var.ensures.grows c.requires.property

pub returns-in_err-lits-clause-grows : goal.returns-in_err-lits-clause-grows
returns-in_err-lits-clause-grows c = extends-trans c.make_var.ensures.grows c.chosen_lits.ensures.grows

pub returns-in_err-all-clause-grows : goal.returns-in_err-all-clause-grows
returns-in_err-all-clause-grows c = extends-trans c.make_var.ensures.grows c.chosen_lits.ensures.grows

pub returns-in_err-from_slice-clause-grows : goal.returns-in_err-from_slice-clause-grows
returns-in_err-from_slice-clause-grows c = extends-trans c.make_var.ensures.grows c.chosen_lits.ensures.grows

pub returns-in_err-append-clause-grows : goal.returns-in_err-append-clause-grows
returns-in_err-append-clause-grows c = extends-trans c.make_var.ensures.grows c.chosen_lits.ensures.grows

pub returns-in_err-sigma-clause-grows : goal.returns-in_err-sigma-clause-grows
returns-in_err-sigma-clause-grows c = extends-trans c.make_var.ensures.grows c.chosen_lits.ensures.grows

pub returns-clause-made : goal.returns-clause-made
returns-clause-made c =
    instance-made c.make_var.ensures.grows c.chosen_lits.ensures.grows c.args.vars.now c.append.new.self c.in_ok-sigma.sigma c.requires.vars c.args.chosen.now c.requires.property c.in_ok-number.number c.in_ok-x.x c.args.parent c.in_ok-number.ensures c.in_ok-x.ensures.made c.in_ok-lits.lits c.in_ok-lits.ensures.made (c.in_ok-append.ensures ∙ rw (c.in_ok-all.ensures, c.in_ok-from_slice.ensures) refl) c.in_ok-sigma.ensures

pub returns-clause-grows : goal.returns-clause-grows
returns-clause-grows c = extends-trans c.make_var.ensures.grows c.chosen_lits.ensures.grows
