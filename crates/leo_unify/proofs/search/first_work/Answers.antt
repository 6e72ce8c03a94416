use Rattle.std.proofs.Common.{◌∙◌, sym, refl}
use Rattle.leo_terms.proofs.CallerLemmas.{extends-itself, extends-trans}
use Rattle.leo_unify.proofs.Growing.{types-grow}
use Rattle.leo_unify.proofs.SearchSteps.{left-of-bank, right-of-bank, pair-is-in, work-found, work-next, act-is-in}
use Rattle.leo_unify.proofs.search.first_work.Goals as goal

pub loop-place-init : goal.loop-place-init
loop-place-init c =
    (extends-itself c.is_sound.ensures.sound, refl)

pub act_on-requires-clause-left : goal.act_on-requires-clause-left
act_on-requires-clause-left c =
    left-of-bank c.loop-place.invariant.0 c.args.state.now c.requires.state c.loop-place.place c.index-pairs-place.result (rw c.as_slice-pairs.ensures at c.loop-place-test.true) (rw c.as_slice-pairs.ensures at c.index-pairs-place.is)

pub act_on-requires-clause-right : goal.act_on-requires-clause-right
act_on-requires-clause-right c =
    right-of-bank c.loop-place.invariant.0 c.args.state.now c.requires.state c.loop-place.place c.index-pairs-place.result (rw c.as_slice-pairs.ensures at c.loop-place-test.true) (rw c.as_slice-pairs.ensures at c.index-pairs-place.is)

pub act_on-requires-clause-vars : goal.act_on-requires-clause-vars
act_on-requires-clause-vars c =
    rw c.as_slice.ensures (types-grow c.loop-place.invariant.0 c.args.state.now.vars c.requires.state.types_of)

pub act_on-requires-clause-typed : goal.act_on-requires-clause-typed
act_on-requires-clause-typed c =
    rw c.as_slice.ensures (pair-is-in c.loop-place.invariant.0 c.args.state.now c.requires.state c.loop-place.place c.index-pairs-place.result (rw c.as_slice-pairs.ensures at c.loop-place-test.true) (rw c.as_slice-pairs.ensures at c.index-pairs-place.is))

pub returns-in_err-act-clause-grows : goal.returns-in_err-act-clause-grows
returns-in_err-act-clause-grows c =
    extends-trans c.loop-place.invariant.0 c.act_on.ensures.grows

pub returns-then-not-is_stay-clause-value : goal.returns-then-not-is_stay-clause-value
returns-then-not-is_stay-clause-value c =
    work-found c.loop-place.invariant.0 c.args.state.now c.requires.state c.loop-place.place c.index-pairs-place.result (rw c.as_slice-pairs.ensures at c.loop-place-test.true) (rw c.as_slice-pairs.ensures at c.index-pairs-place.is) c.args.depth _ (rw c.as_slice.ensures at c.in_ok-act.ensures.value) c.loop-place.invariant.1 (sym (c.is_stay.ensures c.act_on.new.bank) ∙ c.if-not-is_stay.true)

pub returns-then-not-is_stay-clause-typed : goal.returns-then-not-is_stay-clause-typed
returns-then-not-is_stay-clause-typed c =
    act-is-in c.loop-place.invariant.0 c.args.state.now c.requires.state c.loop-place.place c.index-pairs-place.result (rw c.as_slice-pairs.ensures at c.loop-place-test.true) (rw c.as_slice-pairs.ensures at c.index-pairs-place.is) c.args.depth _ (rw c.as_slice.ensures at c.in_ok-act.ensures.value) c.loop-place.invariant.1

pub returns-then-not-is_stay-clause-grows : goal.returns-then-not-is_stay-clause-grows
returns-then-not-is_stay-clause-grows c =
    extends-trans c.loop-place.invariant.0 c.act_on.ensures.grows

pub loop-place-preserved : goal.loop-place-preserved
loop-place-preserved c =
    (extends-trans c.loop-place.invariant.0 c.act_on.ensures.grows, work-next c.loop-place.invariant.0 c.args.state.now c.requires.state c.loop-place.place c.index-pairs-place.result (rw c.as_slice-pairs.ensures at c.loop-place-test.true) (rw c.as_slice-pairs.ensures at c.index-pairs-place.is) c.args.depth _ (rw c.as_slice.ensures at c.in_ok-act.ensures.value) c.loop-place.invariant.1 (sym (c.is_stay.ensures c.act_on.new.bank) ∙ c.if-not-is_stay.false))
