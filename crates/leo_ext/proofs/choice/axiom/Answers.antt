use Rattle.std.proofs.Common.{arith}
use Rattle.leo_terms.proofs.CallerLemmas.{extends-trans}
use Rattle.leo_ext.proofs.ChoiceMembers.{axiom-made, axiom-property, truths-kept}
use Rattle.leo_terms.proofs.CallerLemmas.{term-kept}
use Rattle.leo_ext.proofs.choice.axiom.Goals as goal

pub returns-in_err-x-clause-grows : goal.returns-in_err-x-clause-grows
returns-in_err-x-clause-grows c = extends-trans c.arrow.ensures.grows (extends-trans c.make_var.ensures.grows c.make_var-2.ensures.grows)

pub chosen_lits-requires-clause-truths : goal.chosen_lits-requires-clause-truths
chosen_lits-requires-clause-truths c = truths-kept (extends-trans c.arrow.ensures.grows (extends-trans c.make_var.ensures.grows c.make_var-2.ensures.grows)) c.args.truths.now c.requires.truths

pub chosen_lits-requires-clause-property : goal.chosen_lits-requires-clause-property
chosen_lits-requires-clause-property c =
    let m = (extends-trans c.arrow.ensures.grows (extends-trans c.make_var.ensures.grows c.make_var-2.ensures.grows)).types_more in
    let l = c.requires.ty in
    axiom-property (extends-trans c.make_var.ensures.grows c.make_var-2.ensures.grows) c.args.ty c.in_ok-of_property.of_property c.truth.result c.in_ok-property.property _ (omega arith) c.in_ok-of_property.ensures.made c.truth.ensures (term-kept c.make_var-2.ensures.grows c.in_ok-property.ensures.made)

pub returns-in_err-lits-clause-grows : goal.returns-in_err-lits-clause-grows
returns-in_err-lits-clause-grows c = extends-trans c.arrow.ensures.grows (extends-trans c.make_var.ensures.grows (extends-trans c.make_var-2.ensures.grows c.chosen_lits.ensures.grows))

pub returns-in_err-vars-clause-grows : goal.returns-in_err-vars-clause-grows
returns-in_err-vars-clause-grows c = extends-trans c.arrow.ensures.grows (extends-trans c.make_var.ensures.grows (extends-trans c.make_var-2.ensures.grows c.chosen_lits.ensures.grows))

pub returns-clause-made : goal.returns-clause-made
returns-clause-made c =
    axiom-made c.arrow.ensures.grows c.make_var.ensures.grows c.make_var-2.ensures.grows c.chosen_lits.ensures.grows c.args.ty c.in_ok-of_property.of_property c.truth.result c.in_ok-property.property c.in_ok-x.x c.requires.ty c.in_ok-of_property.ensures.made c.truth.ensures c.in_ok-property.ensures.made c.in_ok-x.ensures.made c.in_ok-lits.lits c.in_ok-lits.ensures.made c.in_ok-vars.vars c.in_ok-vars.ensures

pub returns-clause-grows : goal.returns-clause-grows
returns-clause-grows c = extends-trans c.arrow.ensures.grows (extends-trans c.make_var.ensures.grows (extends-trans c.make_var-2.ensures.grows c.chosen_lits.ensures.grows))
