use Rattle.leo_terms.proofs.CallerLemmas.{extends-itself, extends-trans, are_terms-kept}
use Rattle.leo_unify.proofs.StateLemmas.{term-within, term-given, terms-next}
use Rattle.leo_unify.proofs.BodySteps.{terms-end, no-terms}
use Rattle.leo_unify.proofs.state.put_terms.Goals as goal

pub loop-term-init : goal.loop-term-init
loop-term-init c = (extends-itself c.is_sound.ensures.sound, rw c.new-out.ensures (no-terms c.args.bank.now), rw c.new-out.ensures tt)

pub put_term-requires-clause-within : goal.put_term-requires-clause-within
put_term-requires-clause-within c = term-within c.loop-term.invariant.0 c.args.given.now c.requires.terms c.args.terms.now c.requires.within c.requires.given c.loop-term.term-index c.term-item.result c.loop-term-test.true c.term-item.is

pub put_term-requires-clause-given : goal.put_term-requires-clause-given
put_term-requires-clause-given c = term-given c.loop-term.invariant.0 c.args.given.now c.requires.terms c.args.terms.now c.requires.within c.requires.given c.loop-term.term-index c.term-item.result c.loop-term-test.true c.term-item.is

pub returns-in_err-r-clause-grows : goal.returns-in_err-r-clause-grows
returns-in_err-r-clause-grows c = extends-trans c.loop-term.invariant.0 c.put_term.ensures.grows

pub returns-in_err-push-clause-grows : goal.returns-in_err-push-clause-grows
returns-in_err-push-clause-grows c = extends-trans c.loop-term.invariant.0 c.put_term.ensures.grows

pub loop-term-preserved : goal.loop-term-preserved
loop-term-preserved c =
    let f = c.put_term.ensures.grows in (
      extends-trans c.loop-term.invariant.0 f,
      rw c.in_ok-push.ensures.ok (terms-end c.put_term.new.bank c.loop-term.out c.in_ok-r.r (are_terms-kept f c.loop-term.out c.loop-term.invariant.1) c.in_ok-r.ensures.within),
      rw c.in_ok-push.ensures.ok (terms-next c.loop-term.invariant.0 c.args.given.now c.requires.terms c.args.terms.now c.requires.within c.requires.given c.loop-term.term-index c.term-item.result c.loop-term-test.true c.term-item.is f c.loop-term.out c.loop-term.invariant.1 c.loop-term.invariant.2 c.in_ok-r.r c.in_ok-r.ensures.put),
    )
