use Rattle.std.proofs.Common.{refl}
use Rattle.leo_terms.proofs.CallerLemmas.{extends-itself, extends-trans, new_bank}
use Rattle.leo_kernel.proofs.Growing.{truths-grow}
use Rattle.leo_kernel.proofs.ChoiceRule.{thing-within, property-arrow, property-reads, thing-reads, property-applies, property-is, chosen-applies, first-reads, second-reads, choice-later}
use Rattle.leo_kernel.proofs.choice.chooses.Goals as goal

pub make_app-requires-clause-typed : goal.make_app-requires-clause-typed
make_app-requires-clause-typed c = property-applies c.make_var.ensures.grows c.make_var-2.ensures.grows (extends-itself (new_bank c.make_var-2.ensures.grows)) (extends-itself (new_bank c.make_var-2.ensures.grows)) (extends-itself (new_bank c.make_var-2.ensures.grows)) c.index-vars-0.result c.index-vars-1.result (thing-within c.args.bank.now c.is_sound.ensures.sound c.args.step.now.vars c.requires.step.types_of c.requires.variables c.index-vars-0.result c.index-vars-1.result (rw c.as_slice-vars.ensures at c.index-vars-0.is) (rw c.as_slice-vars.ensures at c.index-vars-1.is)) (property-arrow c.args.bank.now c.is_sound.ensures.sound c.args.step.now.vars c.requires.step.types_of c.requires.variables c.index-vars-0.result c.index-vars-1.result (rw c.as_slice-vars.ensures at c.index-vars-0.is) (rw c.as_slice-vars.ensures at c.index-vars-1.is)) c.in_ok-of_property.of_property c.in_ok-of_thing.of_thing c.in_ok-of_property.ensures.made c.in_ok-of_thing.ensures.made

pub returns-in_err-holds_of_it-clause-grows : goal.returns-in_err-holds_of_it-clause-grows
returns-in_err-holds_of_it-clause-grows c = extends-trans c.make_var.ensures.grows (extends-trans c.make_var-2.ensures.grows c.make_app.ensures.grows)

pub make_logic-requires-clause-typed : goal.make_logic-requires-clause-typed
make_logic-requires-clause-typed c = (property-is c.make_var.ensures.grows c.make_var-2.ensures.grows c.make_app.ensures.grows (extends-itself (new_bank c.make_app.ensures.grows)) (extends-itself (new_bank c.make_app.ensures.grows)) c.index-vars-0.result c.index-vars-1.result (thing-within c.args.bank.now c.is_sound.ensures.sound c.args.step.now.vars c.requires.step.types_of c.requires.variables c.index-vars-0.result c.index-vars-1.result (rw c.as_slice-vars.ensures at c.index-vars-0.is) (rw c.as_slice-vars.ensures at c.index-vars-1.is)) (property-arrow c.args.bank.now c.is_sound.ensures.sound c.args.step.now.vars c.requires.step.types_of c.requires.variables c.index-vars-0.result c.index-vars-1.result (rw c.as_slice-vars.ensures at c.index-vars-0.is) (rw c.as_slice-vars.ensures at c.index-vars-1.is)) c.in_ok-of_property.of_property c.in_ok-of_thing.of_thing c.in_ok-of_property.ensures.made c.in_ok-of_thing.ensures.made, record { argument_is = refl }, refl)

pub returns-in_err-chosen-clause-grows : goal.returns-in_err-chosen-clause-grows
returns-in_err-chosen-clause-grows c = extends-trans c.make_var.ensures.grows (extends-trans c.make_var-2.ensures.grows (extends-trans c.make_app.ensures.grows c.make_logic.ensures.grows))

pub make_app-requires-2-clause-typed : goal.make_app-requires-2-clause-typed
make_app-requires-2-clause-typed c = chosen-applies c.make_var.ensures.grows c.make_var-2.ensures.grows c.make_app.ensures.grows c.make_logic.ensures.grows (extends-itself (new_bank c.make_logic.ensures.grows)) c.index-vars-0.result c.index-vars-1.result (thing-within c.args.bank.now c.is_sound.ensures.sound c.args.step.now.vars c.requires.step.types_of c.requires.variables c.index-vars-0.result c.index-vars-1.result (rw c.as_slice-vars.ensures at c.index-vars-0.is) (rw c.as_slice-vars.ensures at c.index-vars-1.is)) (property-arrow c.args.bank.now c.is_sound.ensures.sound c.args.step.now.vars c.requires.step.types_of c.requires.variables c.index-vars-0.result c.index-vars-1.result (rw c.as_slice-vars.ensures at c.index-vars-0.is) (rw c.as_slice-vars.ensures at c.index-vars-1.is)) c.in_ok-of_property.of_property c.in_ok-of_thing.of_thing c.in_ok-of_property.ensures.made c.in_ok-of_thing.ensures.made c.in_ok-chosen.chosen _ c.in_ok-chosen.ensures.made

pub returns-in_err-holds_of_chosen-clause-grows : goal.returns-in_err-holds_of_chosen-clause-grows
returns-in_err-holds_of_chosen-clause-grows c = extends-trans c.make_var.ensures.grows (extends-trans c.make_var-2.ensures.grows (extends-trans c.make_app.ensures.grows (extends-trans c.make_logic.ensures.grows c.make_app-2.ensures.grows)))

pub valued-first-requires-clause-truths : goal.valued-first-requires-clause-truths
valued-first-requires-clause-truths c = truths-grow (extends-trans c.make_var.ensures.grows (extends-trans c.make_var-2.ensures.grows (extends-trans c.make_app.ensures.grows (extends-trans c.make_logic.ensures.grows c.make_app-2.ensures.grows)))) c.args.truths.now c.requires.truths

pub valued-second-requires-clause-truths : goal.valued-second-requires-clause-truths
valued-second-requires-clause-truths c = truths-grow (extends-trans c.make_var.ensures.grows (extends-trans c.make_var-2.ensures.grows (extends-trans c.make_app.ensures.grows (extends-trans c.make_logic.ensures.grows c.make_app-2.ensures.grows)))) c.args.truths.now c.requires.truths

pub returns-clause-value : goal.returns-clause-value
returns-clause-value c =
    let first = first-reads c.make_var.ensures.grows c.make_var-2.ensures.grows c.make_app.ensures.grows c.make_logic.ensures.grows c.make_app-2.ensures.grows c.index-vars-0.result c.index-vars-1.result (thing-within c.args.bank.now c.is_sound.ensures.sound c.args.step.now.vars c.requires.step.types_of c.requires.variables c.index-vars-0.result c.index-vars-1.result (rw c.as_slice-vars.ensures at c.index-vars-0.is) (rw c.as_slice-vars.ensures at c.index-vars-1.is)) (property-arrow c.args.bank.now c.is_sound.ensures.sound c.args.step.now.vars c.requires.step.types_of c.requires.variables c.index-vars-0.result c.index-vars-1.result (rw c.as_slice-vars.ensures at c.index-vars-0.is) (rw c.as_slice-vars.ensures at c.index-vars-1.is)) c.in_ok-of_property.of_property c.in_ok-of_thing.of_thing c.in_ok-of_property.ensures.made c.in_ok-of_thing.ensures.made c.in_ok-holds_of_it.holds_of_it _ c.in_ok-holds_of_it.ensures.made in
    let second = second-reads c.make_var.ensures.grows c.make_var-2.ensures.grows c.make_app.ensures.grows c.make_logic.ensures.grows c.make_app-2.ensures.grows c.index-vars-0.result c.index-vars-1.result (thing-within c.args.bank.now c.is_sound.ensures.sound c.args.step.now.vars c.requires.step.types_of c.requires.variables c.index-vars-0.result c.index-vars-1.result (rw c.as_slice-vars.ensures at c.index-vars-0.is) (rw c.as_slice-vars.ensures at c.index-vars-1.is)) (property-arrow c.args.bank.now c.is_sound.ensures.sound c.args.step.now.vars c.requires.step.types_of c.requires.variables c.index-vars-0.result c.index-vars-1.result (rw c.as_slice-vars.ensures at c.index-vars-0.is) (rw c.as_slice-vars.ensures at c.index-vars-1.is)) c.in_ok-of_property.of_property c.in_ok-of_thing.of_thing c.in_ok-of_property.ensures.made c.in_ok-of_thing.ensures.made c.in_ok-chosen.chosen c.in_ok-holds_of_chosen.holds_of_chosen _ c.in_ok-chosen.ensures.made c.in_ok-holds_of_chosen.ensures.made in
    choice-later (extends-trans c.make_var.ensures.grows (extends-trans c.make_var-2.ensures.grows (extends-trans c.make_app.ensures.grows (extends-trans c.make_logic.ensures.grows c.make_app-2.ensures.grows)))) c.args.step.now c.requires.step c.requires.variables c.valued-first.result c.valued-second.result
    (c.valued-first.ensures.left, c.valued-first.ensures.right, (c.valued-second.ensures.left, c.valued-second.ensures.right, tt)) _ _ _ _ (property-reads c.args.bank.now c.is_sound.ensures.sound c.args.step.now.vars c.requires.step.types_of c.requires.variables c.index-vars-0.result c.index-vars-1.result (rw c.as_slice-vars.ensures at c.index-vars-0.is) (rw c.as_slice-vars.ensures at c.index-vars-1.is)) (thing-reads c.args.bank.now c.is_sound.ensures.sound c.args.step.now.vars c.requires.step.types_of c.requires.variables c.index-vars-0.result c.index-vars-1.result (rw c.as_slice-vars.ensures at c.index-vars-0.is) (rw c.as_slice-vars.ensures at c.index-vars-1.is))
    c.valued-first.ensures.reads c.valued-second.ensures.reads first second c.same_lits.result (rw c.as_slice.ensures at c.same_lits.ensures)

pub returns-clause-grows : goal.returns-clause-grows
returns-clause-grows c = extends-trans c.make_var.ensures.grows (extends-trans c.make_var-2.ensures.grows (extends-trans c.make_app.ensures.grows (extends-trans c.make_logic.ensures.grows c.make_app-2.ensures.grows)))
