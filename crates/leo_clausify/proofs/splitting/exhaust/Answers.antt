use Rattle.std.proofs.Common.{arith}
use Rattle.leo_terms.proofs.CallerLemmas.{extends-itself, extends-trans}
use Rattle.leo_clausify.proofs.Stepping.{done-ended, still-running}
use Rattle.leo_clausify.proofs.splitting.exhaust.Goals as goal

pub loop-init : goal.loop-init
loop-init c = (extends-itself c.is_sound.ensures.sound, c.requires, λ known before start low h. h)

pub returns-in_err-advance-clause-grows : goal.returns-in_err-advance-clause-grows
returns-in_err-advance-clause-grows c = extends-trans c.loop.invariant.0 c.advance.ensures.grows

pub returns-in-Done-clause-ended : goal.returns-in-Done-clause-ended
returns-in-Done-clause-ended c =
    let p = (rw c.in-Done.is at c.in_ok-advance.ensures.progress).progress in
    done-ended c.args.bank.now c.loop.bank c.advance.new.bank c.args.agenda.now c.loop.agenda c.advance.new.self c.loop.invariant.2 p.0 p.1 p.2

pub returns-in-Done-clause-grows : goal.returns-in-Done-clause-grows
returns-in-Done-clause-grows c = extends-trans c.loop.invariant.0 c.advance.ensures.grows

pub returns-in-Full-clause-ended : goal.returns-in-Full-clause-ended
returns-in-Full-clause-ended c =
    let p = (rw c.in-Full.is at c.in_ok-advance.ensures.progress).progress in
    record { ended = λ known before start low h. p known before start (c.loop.invariant.2 known before start low h) }

pub returns-in-Full-clause-grows : goal.returns-in-Full-clause-grows
returns-in-Full-clause-grows c = extends-trans c.loop.invariant.0 c.advance.ensures.grows

pub loop-preserved : goal.loop-preserved
loop-preserved c =
    let p = (rw c.in-More.is at c.in_ok-advance.ensures.progress).progress in
    let e = c.loop.invariant.0 in
    let m = e.symbols_more in
    (extends-trans e c.advance.ensures.grows, still-running c.loop.bank c.advance.new.bank c.loop.agenda c.advance.new.self c.advance.ensures.grows c.loop.invariant.1 p, λ known before start low h. p known before start (omega arith) (c.loop.invariant.2 known before start low h))
