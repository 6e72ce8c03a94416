use Rattle.std.proofs.Common.{◌-◌}
use Rattle.leo_conclude.proofs.Constraining.{before-all, next-changed, next-kept, next-stands, next-within, now-partly, still-partly}
use Rattle.leo_conclude.proofs.relieving.relieve_all.Goals.{then-is_constraint+in_ok-next, else-is_constraint}
use Rattle.leo_conclude.proofs.relieving.relieve_all.Goals as goal

pub relieve-requires-clause-left : goal.relieve-requires-clause-left
relieve-requires-clause-left c =
    (next-within c.args.bank.now c.args.derived c.loop-done.present c.args.constraints.now (c.len-count.result - 1 - c.loop-done.done) (before-all c.args.bank.now c.args.derived c.len-count.result c.loop-done.done c.len-count.ensures c.loop-done-test.true) (still-partly c.args.bank.now c.args.derived c.loop-done.present c.args.constraints.now c.len-count.result c.loop-done.done c.loop-done-test.true c.loop-done.invariant)
    c.index-as_slice-at.result (rw c.as_slice.ensures at c.index-as_slice-at.is) c.is_constraint.result c.is_constraint.ensures c.if-is_constraint.true c.requires.constraints).0

pub relieve-requires-clause-right : goal.relieve-requires-clause-right
relieve-requires-clause-right c =
    (next-within c.args.bank.now c.args.derived c.loop-done.present c.args.constraints.now (c.len-count.result - 1 - c.loop-done.done) (before-all c.args.bank.now c.args.derived c.len-count.result c.loop-done.done c.len-count.ensures c.loop-done-test.true) (still-partly c.args.bank.now c.args.derived c.loop-done.present c.args.constraints.now c.len-count.result c.loop-done.done c.loop-done-test.true c.loop-done.invariant)
    c.index-as_slice-at.result (rw c.as_slice.ensures at c.index-as_slice-at.is) c.is_constraint.result c.is_constraint.ensures c.if-is_constraint.true c.requires.constraints).1

pub relieve-requires-clause-unequal : goal.relieve-requires-clause-unequal
relieve-requires-clause-unequal c =
    next-stands c.args.bank.now c.args.derived c.loop-done.present c.args.constraints.now (c.len-count.result - 1 - c.loop-done.done) (before-all c.args.bank.now c.args.derived c.len-count.result c.loop-done.done c.len-count.ensures c.loop-done-test.true) (still-partly c.args.bank.now c.args.derived c.loop-done.present c.args.constraints.now c.len-count.result c.loop-done.done c.loop-done-test.true c.loop-done.invariant)
    c.index-as_slice-at.result (rw c.as_slice.ensures at c.index-as_slice-at.is) c.is_constraint.result c.is_constraint.ensures c.if-is_constraint.true c.requires.constraints

pub loop-done-preserved : goal.loop-done-preserved
loop-done-preserved c =
    let n = c.len-count.result - 1 - c.loop-done.done in
    let lt = before-all c.args.bank.now c.args.derived c.len-count.result c.loop-done.done c.len-count.ensures c.loop-done-test.true in
    let h = still-partly c.args.bank.now c.args.derived c.loop-done.present c.args.constraints.now c.len-count.result c.loop-done.done c.loop-done-test.true c.loop-done.invariant in
    elim c.if-is_constraint.branch [
      | then-is_constraint+in_ok-next w ↦
          rw w.present-is (now-partly c.args.bank.now c.args.derived _ c.args.constraints.now c.len-count.result c.loop-done.done c.loop-done-test.true
          (next-changed c.args.bank.now c.args.derived c.loop-done.present c.args.constraints.now n lt h w.index-as_slice-at.result (rw w.as_slice.ensures at w.index-as_slice-at.is) c.is_constraint.result c.is_constraint.ensures w.if-is_constraint.true c.requires.constraints w.in_ok-next.next w.in_ok-next.ensures))
      | else-is_constraint w ↦
          rw w.present-is (now-partly c.args.bank.now c.args.derived c.loop-done.present c.args.constraints.now c.len-count.result c.loop-done.done c.loop-done-test.true
          (next-kept c.args.bank.now c.args.derived c.loop-done.present c.args.constraints.now n lt h c.is_constraint.result c.is_constraint.ensures w.if-is_constraint.false))
    ]
