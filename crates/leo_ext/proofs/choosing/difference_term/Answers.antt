use Rattle.std.proofs.Common.{Some, refl, ap}
use Rattle.leo_terms.proofs.CallerLemmas.{extends-trans}
use Rattle.leo_kernel.proofs.ChosenMaking.{function-kept, difference-typed, difference-bound, difference-made}
use Rattle.leo_ext.proofs.choosing.difference_term.Goals as goal

pub applied_inside-requires-2 : goal.applied_inside-requires-2
applied_inside-requires-2 c = function-kept c.applied_inside.ensures.grows c.requires.second

pub returns-in_err-right-clause-grows : goal.returns-in_err-right-clause-grows
returns-in_err-right-clause-grows c = extends-trans c.applied_inside.ensures.grows c.applied_inside-2.ensures.grows

pub make_logic-requires-clause-typed : goal.make_logic-requires-clause-typed
make_logic-requires-clause-typed c =
    let t = difference-typed c.applied_inside.ensures.grows c.applied_inside-2.ensures.grows c.requires.first c.requires.second c.in_ok-left.ensures.made c.in_ok-right.ensures.made in
    (record { argument_is = ap Some t.0 }, record { argument_is = ap Some t.1 }, refl)

pub returns-in_err-equation-clause-grows : goal.returns-in_err-equation-clause-grows
returns-in_err-equation-clause-grows c = extends-trans (extends-trans c.applied_inside.ensures.grows c.applied_inside-2.ensures.grows) c.make_logic.ensures.grows

pub chosen_against-requires-clause-index : goal.chosen_against-requires-clause-index
chosen_against-requires-clause-index c = difference-bound c.applied_inside.ensures.grows c.applied_inside-2.ensures.grows c.requires.first c.requires.second c.in_ok-left.ensures.made c.in_ok-right.ensures.made c.in_ok-equation.ensures.made c.make_logic.ensures.grows

pub returns-in_err-term-clause-grows : goal.returns-in_err-term-clause-grows
returns-in_err-term-clause-grows c = extends-trans (extends-trans (extends-trans c.applied_inside.ensures.grows c.applied_inside-2.ensures.grows) c.make_logic.ensures.grows) c.chosen_against.ensures.grows

pub returns-clause-made : goal.returns-clause-made
returns-clause-made c = difference-made c.applied_inside.ensures.grows c.applied_inside-2.ensures.grows c.requires.first c.requires.second c.in_ok-left.ensures.made c.in_ok-right.ensures.made c.in_ok-equation.ensures.made c.make_logic.ensures.grows c.in_ok-term.ensures.made

pub returns-clause-grows : goal.returns-clause-grows
returns-clause-grows c = extends-trans (extends-trans (extends-trans c.applied_inside.ensures.grows c.applied_inside-2.ensures.grows) c.make_logic.ensures.grows) c.chosen_against.ensures.grows
