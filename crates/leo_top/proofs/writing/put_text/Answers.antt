use Rattle.std.proofs.Common.{take, ap, arith}
use Rattle.std.proofs.lemmas.List.{take_rest}
use Rattle.leo_top.proofs.Taking.{rest_length, taken_more, cut_of_text, on_err}
use Rattle.leo_top.proofs.writing.put_text.Goals as goal

pub returns-in_err-put_piece-clause-cut : goal.returns-in_err-put_piece-clause-cut
returns-in_err-put_piece-clause-cut g c =
    let text = c.args.text.now in
    let done = c.loop-done.done in
    let n = c.line_length-length.result in
    on_err _
    (cut_of_text text _ done n _ _ _ (ap (take n) (take_rest text done)) (omega (arith, rest_length text done, c.line_length-length.ensures.within, c.loop-done-test.true)) c.loop-done.invariant.taken c.in_err-put_piece.ensures.cut)

pub loop-done-preserved : goal.loop-done-preserved
loop-done-preserved g c =
    let text = c.args.text.now in
    let done = c.loop-done.done in
    let n = c.line_length-length.result in
    let invariant = c.loop-done.invariant in
    record {
      within = omega (arith, rest_length text done, c.line_length-length.ensures.within, c.loop-done-test.true);
      taken = taken_more text _ done n _ _ _ (ap (take n) (take_rest text done)) invariant.taken c.in_ok-put_piece.ensures.ok;
      never_falls = omega (arith, invariant.never_falls, c.in_ok-put_piece.ensures.never_falls);
    }
