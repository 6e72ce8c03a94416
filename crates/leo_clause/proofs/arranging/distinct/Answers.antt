use Rattle.std.proofs.Common.{◌≡◌, ◌∙◌, ap}
use Rattle.std.specs.List.{list_any}
use Rattle.leo_clause.specs.Sameness.{same_numbers}
use Rattle.leo_clause.proofs.Seen.{firsts-next}
use Rattle.leo_clause.proofs.arranging.distinct.Goals as goal
use Rattle.leo_clause.proofs.arranging.distinct.Goals.{then-not-stands_among+in_ok-push, else-not-stands_among}

pub loop-lit-preserved : goal.loop-lit-preserved
loop-lit-preserved c =
    let e : c.stands_among.result ≡ list_any (same_numbers c.lit-item.result) c.loop-lit.kept = c.stands_among.ensures ∙ ap (list_any (same_numbers c.lit-item.result)) c.as_slice.ensures in
    let n = firsts-next same_numbers c.args.lits.now c.loop-lit.kept c.loop-lit.lit-index c.lit-item.result c.stands_among.result c.loop-lit-test.true c.lit-item.is c.loop-lit.invariant e in
    elim c.if-not-stands_among.branch [
      | then-not-stands_among+in_ok-push w ↦ rw (w.kept-is, w.in_ok-push.ensures.ok) (rw w.if-not-stands_among.true at n)
      | else-not-stands_among w ↦ rw w.kept-is (rw w.if-not-stands_among.false at n)
    ]
