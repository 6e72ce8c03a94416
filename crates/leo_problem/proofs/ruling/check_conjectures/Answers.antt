use Rattle.std.proofs.Common.{length, refl, arith, sym}
use Rattle.std.proofs.lemmas.Option.{slice_get_read}
use Rattle.leo_problem.proofs.Assumed.{counted-second}
use Rattle.leo_problem.proofs.ruling.check_conjectures.Goals as goal

pub returns-then-found-clause-refusal : goal.returns-then-found-clause-refusal
returns-then-found-clause-refusal c = λ n.
    let ks = c.args.kept.now in
    counted-second c.loop-one.invariant c.one-item.result (slice_get_read ks (length ks) c.loop-one.one-index c.one-item.result refl (omega arith) c.one-item.is)
    (sym c.in-Some.ensures) c.if-found.true c.refused.result (rw c.as_slice.ensures at (c.refused.ensures n))
