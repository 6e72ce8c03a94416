use Rattle.leo_terms.proofs.CallerLemmas.{extends-trans}
use Rattle.leo_unify.proofs.Growing.{types-grow}
use Rattle.leo_unify.proofs.GuessSteps.{head-kept, values-typed, body-indexed, whole-binding}
use Rattle.leo_unify.proofs.guesses.with_head.Goals as goal

pub headed-requires-clause-head : goal.headed-requires-clause-head
headed-requires-clause-head c = head-kept c.fresh.ensures.grows c.args.frame.now c.args.h c.requires.within c.requires.head

pub headed-requires-clause-typed : goal.headed-requires-clause-typed
headed-requires-clause-typed c = rw c.as_slice.ensures (values-typed c.fresh.ensures.grows c.args.frame.now c.args.h c.requires.within c.args.taken.now c.in_ok-fresh.fresh.values c.requires.taken c.in_ok-fresh.ensures.values)

pub returns-in_err-body-clause-grows : goal.returns-in_err-body-clause-grows
returns-in_err-body-clause-grows c = extends-trans c.fresh.ensures.grows c.headed.ensures.grows

pub function_of-requires-clause-outer : goal.function_of-requires-clause-outer
function_of-requires-clause-outer c = rw c.as_slice-2.ensures (types-grow (extends-trans c.fresh.ensures.grows c.headed.ensures.grows) c.args.frame.now.outer c.requires.frame.types_of)

pub function_of-requires-clause-indexed : goal.function_of-requires-clause-indexed
function_of-requires-clause-indexed c = rw c.as_slice-2.ensures (body-indexed c.fresh.ensures.grows c.args.frame.now c.args.h c.requires.within c.args.taken.now c.in_ok-fresh.fresh.values c.requires.taken c.in_ok-fresh.ensures.values c.headed.ensures.grows c.requires.frame c.in_ok-body.body (rw c.as_slice.ensures at c.in_ok-body.ensures.value) c.requires.indexed)

pub returns-in_err-term-clause-grows : goal.returns-in_err-term-clause-grows
returns-in_err-term-clause-grows c = extends-trans (extends-trans c.fresh.ensures.grows c.headed.ensures.grows) c.function_of.ensures.grows

pub returns-clause-value : goal.returns-clause-value
returns-clause-value c = whole-binding c.fresh.ensures.grows c.args.frame.now c.args.h c.requires.within c.args.taken.now c.in_ok-fresh.fresh.values c.requires.taken c.in_ok-fresh.ensures.values c.headed.ensures.grows c.requires.frame c.in_ok-body.body (rw c.as_slice.ensures at c.in_ok-body.ensures.value) c.function_of.ensures.grows c.in_ok-fresh.fresh.types c.in_ok-term.term c.in_ok-fresh.ensures.types_of c.in_ok-fresh.ensures.types (rw c.as_slice-2.ensures at c.in_ok-term.ensures.value)

pub returns-clause-within : goal.returns-clause-within
returns-clause-within c = record { types_of = types-grow (extends-trans c.headed.ensures.grows c.function_of.ensures.grows) c.in_ok-fresh.fresh.types c.in_ok-fresh.ensures.types_of; within = c.in_ok-term.ensures.within }

pub returns-clause-grows : goal.returns-clause-grows
returns-clause-grows c = extends-trans (extends-trans c.fresh.ensures.grows c.headed.ensures.grows) c.function_of.ensures.grows
