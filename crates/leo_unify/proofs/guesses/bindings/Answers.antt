use Rattle.std.proofs.Common.{◌∙◌, refl}
use Rattle.leo_terms.proofs.CallerLemmas.{extends-trans}
use Rattle.leo_unify.proofs.BodySteps.{frame-grows}
use Rattle.leo_unify.proofs.GuessSteps.{new-frame, bindings-made}
use Rattle.leo_unify.proofs.guesses.bindings.Goals as goal

pub imitation-requires-clause-frame : goal.imitation-requires-clause-frame
imitation-requires-clause-frame c = new-frame c.binders.ensures.grows _ c.requires.types (rw c.as_slice.ensures at c.in_ok-binders.ensures.value) c.in_ok-binders.ensures.terms

pub returns-in_err-first-clause-grows : goal.returns-in_err-first-clause-grows
returns-in_err-first-clause-grows c = extends-trans c.binders.ensures.grows c.imitation.ensures.grows

pub returns-in_err-bindings-clause-grows : goal.returns-in_err-bindings-clause-grows
returns-in_err-bindings-clause-grows c = extends-trans c.binders.ensures.grows c.imitation.ensures.grows

pub and_projections-requires-clause-frame : goal.and_projections-requires-clause-frame
and_projections-requires-clause-frame c = frame-grows c.imitation.ensures.grows _ (new-frame c.binders.ensures.grows _ c.requires.types (rw c.as_slice.ensures at c.in_ok-binders.ensures.value) c.in_ok-binders.ensures.terms)

pub returns-in_err-all-clause-grows : goal.returns-in_err-all-clause-grows
returns-in_err-all-clause-grows c = extends-trans (extends-trans c.binders.ensures.grows c.imitation.ensures.grows) c.and_projections.ensures.grows

pub returns-clause-value : goal.returns-clause-value
returns-clause-value c = bindings-made c.binders.ensures.grows c.imitation.ensures.grows c.args.outer c.args.ty c.result_type-result_ty.result c.args.h c.args.number c.args.next c.requires.types c.requires.outer c.result_type-result_ty.ensures.within c.result_type-result_ty.ensures.value c.requires.within c.in_ok-first.first c.in_ok-bindings.bindings _ c.in_ok-first.ensures.value (c.in_ok-bindings.ensures ∙ rw c.new.ensures refl) c.in_ok-all.ensures.value

pub returns-clause-grows : goal.returns-clause-grows
returns-clause-grows c = extends-trans (extends-trans c.binders.ensures.grows c.imitation.ensures.grows) c.and_projections.ensures.grows
