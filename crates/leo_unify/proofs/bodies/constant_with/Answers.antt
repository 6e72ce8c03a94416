use Rattle.leo_terms.proofs.CallerLemmas.{new_bank, extends-itself, extends-trans}
use Rattle.leo_unify.proofs.BodySteps.{constant-takes, others-within, others-typed, constant-step}
use Rattle.leo_unify.proofs.bodies.constant_with.Goals as goal

pub make_logic-requires-clause-typed : goal.make_logic-requires-clause-typed
make_logic-requires-clause-typed c =
    rw (c.own_count-count.ensures c.args.bank.now) (constant-takes c.args.bank.now c.is_sound.ensures.sound c.args.op c.args.arguments.now _ c.requires.op c.requires.arguments c.requires.typed)

pub applied_to-requires-clause-arguments : goal.applied_to-requires-clause-arguments
applied_to-requires-clause-arguments c =
    let e = c.make_logic.ensures.grows in
    others-within e (extends-itself (new_bank e)) c.args.op c.args.arguments.now _ (c.own_count-count.ensures c.args.bank.now) c.requires.arguments c.requires.typed

pub applied_to-requires-clause-typed : goal.applied_to-requires-clause-typed
applied_to-requires-clause-typed c =
    let e = c.make_logic.ensures.grows in
    others-typed e (extends-itself (new_bank e)) c.args.op c.args.arguments.now _ (c.own_count-count.ensures c.args.bank.now) c.requires.arguments c.requires.typed c.in_ok-constant.constant _ c.in_ok-constant.ensures.made c.is_sound.ensures.sound

pub returns-in_err-r-clause-grows : goal.returns-in_err-r-clause-grows
returns-in_err-r-clause-grows c = extends-trans c.make_logic.ensures.grows c.applied_to.ensures.grows

pub returns-clause-value : goal.returns-clause-value
returns-clause-value c =
    constant-step c.make_logic.ensures.grows c.applied_to.ensures.grows c.args.op c.args.arguments.now _ (c.own_count-count.ensures c.args.bank.now) c.requires.arguments c.requires.typed c.in_ok-constant.constant _ c.in_ok-constant.ensures.made c.is_sound.ensures.sound c.in_ok-r.r c.in_ok-r.ensures.value

pub returns-clause-grows : goal.returns-clause-grows
returns-clause-grows c = extends-trans c.make_logic.ensures.grows c.applied_to.ensures.grows
