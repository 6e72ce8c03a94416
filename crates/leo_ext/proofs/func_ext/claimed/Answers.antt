use Rattle.leo_terms.proofs.CallerLemmas.{extends-trans}
use Rattle.leo_kernel.proofs.Growing.{types-grow}
use Rattle.leo_ext.proofs.Differences.{head-function, first-applies, second-applies, difference-made}
use Rattle.leo_ext.proofs.func_ext.claimed.Goals as goal

pub applied_to_variables-requires-clause-types : goal.applied_to_variables-requires-clause-types
applied_to_variables-requires-clause-types c = types-grow c.make_sym.ensures.grows c.args.vars.now c.requires.types

pub applied_to_variables-requires-clause-function : goal.applied_to_variables-requires-clause-function
applied_to_variables-requires-clause-function c =
    head-function c.make_sym.ensures.grows c.args.vars.now c.args.order.now.keys c.args.head c.in_ok-whole.whole _ c.args.lit.now c.args.arrow.now c.requires.functions c.requires.types c.requires.function c.in_ok-whole.ensures.made

pub returns-in_err-chosen-clause-grows : goal.returns-in_err-chosen-clause-grows
returns-in_err-chosen-clause-grows c = extends-trans c.make_sym.ensures.grows c.applied_to_variables.ensures.grows

pub make_app-requires-clause-typed : goal.make_app-requires-clause-typed
make_app-requires-clause-typed c =
    first-applies c.make_sym.ensures.grows c.args.vars.now c.args.order.now.keys c.args.head c.in_ok-whole.whole _ c.args.lit.now c.args.arrow.now c.requires.functions c.requires.types c.requires.function c.in_ok-whole.ensures.made c.applied_to_variables.ensures.grows c.in_ok-chosen.chosen c.in_ok-chosen.ensures.made

pub returns-in_err-left-clause-grows : goal.returns-in_err-left-clause-grows
returns-in_err-left-clause-grows c = extends-trans (extends-trans c.make_sym.ensures.grows c.applied_to_variables.ensures.grows) c.make_app.ensures.grows

pub make_app-requires-2-clause-typed : goal.make_app-requires-2-clause-typed
make_app-requires-2-clause-typed c =
    second-applies c.make_sym.ensures.grows c.args.vars.now c.args.order.now.keys c.args.head c.in_ok-whole.whole _ c.args.lit.now c.args.arrow.now c.requires.functions c.requires.types c.requires.function c.in_ok-whole.ensures.made c.applied_to_variables.ensures.grows c.in_ok-chosen.chosen c.in_ok-chosen.ensures.made c.make_app.ensures.grows

pub returns-in_err-right-clause-grows : goal.returns-in_err-right-clause-grows
returns-in_err-right-clause-grows c = extends-trans (extends-trans (extends-trans c.make_sym.ensures.grows c.applied_to_variables.ensures.grows) c.make_app.ensures.grows) c.make_app-2.ensures.grows

pub returns-clause-made : goal.returns-clause-made
returns-clause-made c =
    difference-made c.make_sym.ensures.grows c.args.vars.now c.args.order.now.keys c.args.head c.in_ok-whole.whole _ c.args.lit.now c.args.arrow.now c.requires.functions c.requires.types c.requires.function c.in_ok-whole.ensures.made c.applied_to_variables.ensures.grows c.in_ok-chosen.chosen c.in_ok-chosen.ensures.made c.make_app.ensures.grows c.make_app-2.ensures.grows c.in_ok-left.left c.in_ok-right.right _ _ c.in_ok-left.ensures.made c.in_ok-right.ensures.made

pub returns-clause-grows : goal.returns-clause-grows
returns-clause-grows c = extends-trans (extends-trans (extends-trans c.make_sym.ensures.grows c.applied_to_variables.ensures.grows) c.make_app.ensures.grows) c.make_app-2.ensures.grows
