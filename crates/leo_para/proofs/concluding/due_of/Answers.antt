use Rattle.leo_para.proofs.concluding.due_of.Goals as goal

pub returns-clause-made : goal.returns-clause-made
returns-clause-made c = record {
  clause = c.in_ok-clause.clause;
  concluded = c.in_ok-clause.ensures.made;
  records = rw (c.new-records.ensures, c.in_ok-rule.ensures) at c.in_ok-push.ensures.ok;
  pairs = rw (c.in_ok-last.ensures, c.as_slice.ensures) at c.in_ok-pairs.ensures;
}
