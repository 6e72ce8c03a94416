use Rattle.std.proofs.Common.{get_or, refl}
use Rattle.std.proofs.lemmas.Option.{slice_get_read}
use Rattle.leo_terms.proofs.Parts.{images-next}
use Rattle.leo_terms.proofs.part.numbers_at.Goals as goal

pub loop-t-preserved : goal.loop-t-preserved
loop-t-preserved c = rw (c.in_ok-push.ensures.items, c.number_at.ensures) (images-next (λ t. get_or c.args.numbers.now t 0) c.args.terms.now c.loop-t.moved.items c.loop-t.t-index c.t-item.result (slice_get_read c.args.terms.now _ c.loop-t.t-index c.t-item.result refl c.loop-t-test.true c.t-item.is) c.loop-t.invariant)
