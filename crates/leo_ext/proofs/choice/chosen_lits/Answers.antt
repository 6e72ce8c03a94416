use Rattle.std.proofs.Common.{refl, ◌∙◌}
use Rattle.leo_terms.proofs.CallerLemmas.{extends-itself, extends-trans, new_bank}
use Rattle.leo_kernel.proofs.Growing.{property-applies}
use Rattle.leo_ext.proofs.ChoiceMembers.{literals-made, property-grow, property-there}
use Rattle.leo_ext.proofs.choice.chosen_lits.Goals as goal

pub make_app-requires-clause-function : goal.make_app-requires-clause-function
make_app-requires-clause-function c = c.requires.property.within

pub make_app-requires-clause-typed : goal.make_app-requires-clause-typed
make_app-requires-clause-typed c = property-applies (extends-itself c.is_sound.ensures.sound) c.requires.property c.requires.x

pub make_logic-requires-clause-typed : goal.make_logic-requires-clause-typed
make_logic-requires-clause-typed c = (property-there c.make_app.ensures.grows c.requires.property, record { argument_is = refl }, refl)

pub returns-in_err-term-clause-grows : goal.returns-in_err-term-clause-grows
returns-in_err-term-clause-grows c = extends-trans c.make_app.ensures.grows c.make_logic.ensures.grows

pub make_app-requires-2-clause-typed : goal.make_app-requires-2-clause-typed
make_app-requires-2-clause-typed c = property-applies (extends-itself (new_bank c.make_logic.ensures.grows)) (property-grow (extends-trans c.make_app.ensures.grows c.make_logic.ensures.grows) c.requires.property) c.in_ok-term.ensures.made

pub returns-in_err-that-clause-grows : goal.returns-in_err-that-clause-grows
returns-in_err-that-clause-grows c = extends-trans (extends-trans c.make_app.ensures.grows c.make_logic.ensures.grows) c.make_app-2.ensures.grows

pub returns-in_err-lits-clause-grows : goal.returns-in_err-lits-clause-grows
returns-in_err-lits-clause-grows c = extends-trans (extends-trans c.make_app.ensures.grows c.make_logic.ensures.grows) c.make_app-2.ensures.grows

pub returns-clause-made : goal.returns-clause-made
returns-clause-made c =
    literals-made c.make_app.ensures.grows c.make_logic.ensures.grows c.make_app-2.ensures.grows c.args.chosen.now.ty c.args.chosen.now.property c.args.x c.requires.property c.requires.x c.args.truths.now c.requires.truths c.in_ok-some.some _ c.in_ok-term.term c.in_ok-that.that _ c.in_ok-lits.lits
    c.in_ok-some.ensures.made c.in_ok-term.ensures.made c.in_ok-that.ensures.made (c.in_ok-lits.ensures ∙ rw (c.valued-first.ensures, c.valued-second.ensures) refl)

pub returns-clause-grows : goal.returns-clause-grows
returns-clause-grows c = extends-trans (extends-trans c.make_app.ensures.grows c.make_logic.ensures.grows) c.make_app-2.ensures.grows
