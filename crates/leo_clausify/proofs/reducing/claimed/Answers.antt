use Rattle.leo_terms.proofs.CallerLemmas.{extends-trans}
use Rattle.leo_kernel.proofs.Growing.{types-grow}
use Rattle.leo_clausify.proofs.ClosedForms.{head-function, claim-applies, claim-made}
use Rattle.leo_clausify.proofs.reducing.claimed.Goals as goal

pub applied_to_variables-requires-clause-types : goal.applied_to_variables-requires-clause-types
applied_to_variables-requires-clause-types c = types-grow c.make_sym.ensures.grows c.args.vars.now c.requires.types

pub applied_to_variables-requires-clause-function : goal.applied_to_variables-requires-clause-function
applied_to_variables-requires-clause-function c =
    head-function c.make_sym.ensures.grows c.args.vars.now c.args.order.now.keys c.args.head c.args.ty c.in_ok-whole.whole _ c.requires.types c.requires.function c.in_ok-whole.ensures.made

pub returns-in_err-chosen-clause-grows : goal.returns-in_err-chosen-clause-grows
returns-in_err-chosen-clause-grows c = extends-trans c.make_sym.ensures.grows c.applied_to_variables.ensures.grows

pub make_app-requires-clause-typed : goal.make_app-requires-clause-typed
make_app-requires-clause-typed c =
    claim-applies c.make_sym.ensures.grows c.args.vars.now c.args.order.now.keys c.args.head c.args.ty c.in_ok-whole.whole _ c.requires.types c.requires.function c.in_ok-whole.ensures.made c.applied_to_variables.ensures.grows c.args.property c.in_ok-chosen.chosen c.requires.property c.in_ok-chosen.ensures.made

pub returns-in_err-claim-clause-grows : goal.returns-in_err-claim-clause-grows
returns-in_err-claim-clause-grows c = extends-trans (extends-trans c.make_sym.ensures.grows c.applied_to_variables.ensures.grows) c.make_app.ensures.grows

pub returns-in_err-new-clause-grows : goal.returns-in_err-new-clause-grows
returns-in_err-new-clause-grows c = extends-trans (extends-trans (extends-trans c.make_sym.ensures.grows c.applied_to_variables.ensures.grows) c.make_app.ensures.grows) c.single.ensures.grows

pub returns-clause-made : goal.returns-clause-made
returns-clause-made c =
    claim-made c.make_sym.ensures.grows c.args.vars.now c.args.order.now.keys c.args.head c.args.ty c.in_ok-whole.whole _ c.requires.types c.requires.function c.in_ok-whole.ensures.made c.applied_to_variables.ensures.grows c.args.property c.in_ok-chosen.chosen c.requires.property c.in_ok-chosen.ensures.made c.args.v c.in_ok-claim.claim _ c.in_ok-new.new c.in_ok-claim.ensures.made c.in_ok-new.ensures.made

pub returns-clause-grows : goal.returns-clause-grows
returns-clause-grows c = extends-trans (extends-trans (extends-trans c.make_sym.ensures.grows c.applied_to_variables.ensures.grows) c.make_app.ensures.grows) c.single.ensures.grows
