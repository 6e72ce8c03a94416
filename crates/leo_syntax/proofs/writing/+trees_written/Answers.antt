use Rattle.std.proofs.Common.{arith}
use Rattle.leo_syntax.proofs.WrittenLists.{argument_next}
use Rattle.leo_syntax.proofs.writing.+trees_written.Goals as goal

pub arguments-loop-at-preserved : goal.arguments-loop-at-preserved
arguments-loop-at-preserved t c = rw (c.in_ok-write_tree.ensures, c.in_ok-word.ensures)
    (argument_next c.args.last _ c.args.list.now c.loop-at.at _ c.loop-at.out.items _ c.loop-at-test.true c.index-list-at.is (λ e. c.before-in-loop-at.ensures.last (omega (arith, e))) (λ e. c.before-in-loop-at.ensures.others (omega (arith, e))) c.loop-at.invariant)
