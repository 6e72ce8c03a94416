use Rattle.leo_terms.proofs.CallerLemmas.{extends-itself, extends-trans}
use Rattle.leo_unify.proofs.Growing.{pairs-of-grow, pairs-of-end}
use Rattle.leo_unify.proofs.StateLemmas.{left-within, right-within, left-given, right-given, pairs-next}
use Rattle.leo_unify.proofs.state.put_pairs.Goals as goal

pub loop-pair-init : goal.loop-pair-init
loop-pair-init c = (extends-itself c.is_sound.ensures.sound, rw c.new-out.ensures tt, rw c.new-out.ensures tt)

pub put_pair-requires-clause-left : goal.put_pair-requires-clause-left
put_pair-requires-clause-left c = left-within c.loop-pair.invariant.0 c.args.given.now c.requires.terms c.args.pairs.now c.requires.within c.requires.given c.loop-pair.pair-index c.pair-item.result c.loop-pair-test.true c.pair-item.is

pub put_pair-requires-clause-right : goal.put_pair-requires-clause-right
put_pair-requires-clause-right c = right-within c.loop-pair.invariant.0 c.args.given.now c.requires.terms c.args.pairs.now c.requires.within c.requires.given c.loop-pair.pair-index c.pair-item.result c.loop-pair-test.true c.pair-item.is

pub put_pair-requires-clause-left_given : goal.put_pair-requires-clause-left_given
put_pair-requires-clause-left_given c = left-given c.loop-pair.invariant.0 c.args.given.now c.requires.terms c.args.pairs.now c.requires.within c.requires.given c.loop-pair.pair-index c.pair-item.result c.loop-pair-test.true c.pair-item.is

pub put_pair-requires-clause-right_given : goal.put_pair-requires-clause-right_given
put_pair-requires-clause-right_given c = right-given c.loop-pair.invariant.0 c.args.given.now c.requires.terms c.args.pairs.now c.requires.within c.requires.given c.loop-pair.pair-index c.pair-item.result c.loop-pair-test.true c.pair-item.is

pub returns-in_err-r-clause-grows : goal.returns-in_err-r-clause-grows
returns-in_err-r-clause-grows c = extends-trans c.loop-pair.invariant.0 c.put_pair.ensures.grows

pub returns-in_err-push-clause-grows : goal.returns-in_err-push-clause-grows
returns-in_err-push-clause-grows c = extends-trans c.loop-pair.invariant.0 c.put_pair.ensures.grows

pub loop-pair-preserved : goal.loop-pair-preserved
loop-pair-preserved c =
    let f = c.put_pair.ensures.grows in (
      extends-trans c.loop-pair.invariant.0 f,
      rw c.in_ok-push.ensures.ok (pairs-of-end c.put_pair.new.bank c.loop-pair.out c.in_ok-r.r (pairs-of-grow f c.loop-pair.out c.loop-pair.invariant.1) c.in_ok-r.ensures.left_within c.in_ok-r.ensures.right_within),
      rw c.in_ok-push.ensures.ok (pairs-next c.loop-pair.invariant.0 c.args.given.now c.requires.terms c.args.pairs.now c.requires.within c.requires.given c.loop-pair.pair-index c.pair-item.result c.loop-pair-test.true c.pair-item.is f c.loop-pair.out c.loop-pair.invariant.1 c.loop-pair.invariant.2 c.in_ok-r.r c.in_ok-r.ensures.put_left c.in_ok-r.ensures.put_right),
    )
