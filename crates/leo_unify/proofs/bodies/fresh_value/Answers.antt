use Rattle.leo_terms.specs.Contents.{type_at}
use Rattle.leo_terms.proofs.CallerLemmas.{extends-trans}
use Rattle.leo_unify.proofs.BodySteps.{fresh-typed, fresh-type, fresh-value}
use Rattle.leo_unify.proofs.bodies.fresh_value.Goals as goal

pub applied_to-requires-clause-typed : goal.applied_to-requires-clause-typed
applied_to-requires-clause-typed c = (type_at c.args.bank.now c.args.ty, rw c.as_slice-2.ensures (fresh-typed c.function_type.ensures.grows c.make_var.ensures.grows _ c.args.frame.now.binders c.requires.frame.binders_of c.requires.frame.binders_are _ c.in_ok-function.function c.in_ok-variable.variable _ _ c.in_ok-function.ensures.within (rw c.as_slice.ensures at c.in_ok-function.ensures.value) c.in_ok-variable.ensures.made))

pub returns-in_err-value-clause-grows : goal.returns-in_err-value-clause-grows
returns-in_err-value-clause-grows c = extends-trans (extends-trans c.function_type.ensures.grows c.make_var.ensures.grows) c.applied_to.ensures.grows

pub returns-clause-types : goal.returns-clause-types
returns-clause-types c = fresh-type c.function_type.ensures.grows c.make_var.ensures.grows _ c.args.frame.now.binders c.requires.frame.binders_of c.requires.frame.binders_are _ c.in_ok-function.function c.in_ok-variable.variable _ _ c.in_ok-function.ensures.within (rw c.as_slice.ensures at c.in_ok-function.ensures.value) c.in_ok-variable.ensures.made c.applied_to.ensures.grows

pub returns-clause-value : goal.returns-clause-value
returns-clause-value c = fresh-value c.function_type.ensures.grows c.make_var.ensures.grows _ c.args.frame.now.binders c.requires.frame.binders_of c.requires.frame.binders_are _ c.in_ok-function.function c.in_ok-variable.variable _ _ c.in_ok-function.ensures.within (rw c.as_slice.ensures at c.in_ok-function.ensures.value) c.in_ok-variable.ensures.made c.applied_to.ensures.grows _ (rw c.as_slice-2.ensures at c.in_ok-value.ensures.value)

pub returns-clause-grows : goal.returns-clause-grows
returns-clause-grows c = extends-trans (extends-trans c.function_type.ensures.grows c.make_var.ensures.grows) c.applied_to.ensures.grows
