use Rattle.leo_clause.specs.Trees.{literal_at}
use Rattle.leo_para.specs.Reading.{top_at}
use Rattle.leo_para.proofs.Passing.{on-false, passed-both, passed-formula}
use Rattle.leo_para.proofs.meeting.meets_literal.Goals as goal

pub returns-then-has_truth : goal.returns-then-has_truth
returns-then-has_truth c =
    passed-formula (top_at c.args.bank.now c.args.head.now) (literal_at c.args.bank.now c.args.lit.now) (rw c.if-meets_side.false at c.meets_side.ensures) (rw c.if-has_truth.true at c.has_truth.ensures)

pub returns : goal.returns
returns c =
    on-false c.meets_side-2.result
    (passed-both (top_at c.args.bank.now c.args.head.now) (literal_at c.args.bank.now c.args.lit.now) (rw c.if-meets_side.false at c.meets_side.ensures)) c.meets_side-2.ensures
