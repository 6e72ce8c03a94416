use Rattle.std.proofs.Common.{length, arith, ◌≡◌}
use Rattle.fo_text.proofs.KnownSorts.{marks_right}
use Rattle.fo_text.proofs.known.marks.Goals as goal

pub returns : goal.returns
returns c =
    let end : c.loop-sym.sym-index ≡ length c.args.syms.now = (let t = c.loop-sym-test.false in omega arith) in
    marks_right c.args.vars.now c.args.syms.now c.in_ok-known.known c.loop-sym.usable.items c.in_ok-known.ensures.sound c.in_ok-known.ensures.vars c.in_ok-known.ensures.results
    (λ f y l e. c.loop-sym.invariant.1 f y (omega arith) e)
