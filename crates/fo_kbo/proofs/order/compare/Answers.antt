use Rattle.std.proofs.Common.{◌≤◌, length, sym, arith}
use Rattle.fo_kbo.proofs.Comparing.{IsPrefix-is, term_of-is}
use Rattle.fo_kbo.proofs.Around.{begins-same}
use Rattle.fo_kbo.proofs.order.compare.Goals as goal
use Rattle.fo_kbo.proofs.order.compare.Goals.{else-at-left-via-then-at-left+else-at-right, else-at-left-via-else-at-left}

pub compare_from-requires-clause-left : goal.compare_from-requires-clause-left
compare_from-requires-clause-left c = IsPrefix-is c.nodes-left.result.now c.args.first.now c.nodes-left.ensures

pub compare_from-requires-clause-right : goal.compare_from-requires-clause-right
compare_from-requires-clause-right c = IsPrefix-is c.nodes-right.result.now c.args.second.now c.nodes-right.ensures

pub returns-then-at-right : goal.returns-then-at-right
returns-then-at-right c = rw (← term_of-is c.nodes-left.result.now c.args.first.now c.nodes-left.ensures, ← term_of-is c.nodes-right.result.now c.args.second.now c.nodes-right.ensures) c.compare_from.ensures

pub returns-else-at-left : goal.returns-else-at-left
returns-else-at-left c =
    let l = c.first_unlike-at.ensures.left in
    let r = c.first_unlike-at.ensures.right in
    elim c.else-at-left.branch [
      | else-at-left-via-then-at-left+else-at-right w ↦
          (let over : length c.nodes-right.result.now ≤ c.first_unlike-at.result = w.if-at-right.false in
          sym (begins-same c.nodes-right.result.now c.nodes-left.result.now c.args.second.now c.args.first.now c.nodes-right.ensures c.nodes-left.ensures (λ i h. sym (c.first_unlike-at.ensures.same i (omega arith)))))
      | else-at-left-via-else-at-left w ↦
          (let over : length c.nodes-left.result.now ≤ c.first_unlike-at.result = w.if-at-left.false in
          begins-same c.nodes-left.result.now c.nodes-right.result.now c.args.first.now c.args.second.now c.nodes-left.ensures c.nodes-right.ensures (λ i h. c.first_unlike-at.ensures.same i (omega arith)))
    ]
