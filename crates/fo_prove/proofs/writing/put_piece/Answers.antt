use Rattle.std.proofs.Common.{take, ap, arith}
use Rattle.std.proofs.lemmas.List.{take_rest}
use Rattle.fo_prove.proofs.Taking.{rest_length, taken_more}
use Rattle.fo_prove.proofs.writing.put_piece.Goals as goal

pub loop-done-preserved : goal.loop-done-preserved
loop-done-preserved g c =
    let piece = c.args.piece.now in
    let done = c.loop-done.done in
    let count = c.in-Took.count in
    let invariant = c.loop-done.invariant in
    record {
      within = omega (arith, rest_length piece done, c.in-Took.ensures.took.1, c.loop-done-test.true);
      taken = taken_more piece _ done count _ _ _ (ap (take count) (take_rest piece done)) invariant.taken c.in-Took.ensures.took.2;
      never_falls = omega (arith, invariant.never_falls, c.in-Took.ensures.never_falls);
    }
