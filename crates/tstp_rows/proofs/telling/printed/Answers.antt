use Rattle.std.proofs.Common.{sym}
use Rattle.leo_elab.proofs.Places.{declared-kept}
use Rattle.leo_problem.proofs.Assumed.{all-closed-kept}
use Rattle.tstp_rows.proofs.telling.printed.Goals as goal

pub lines_of-requires-clause-hyps : goal.lines_of-requires-clause-hyps
lines_of-requires-clause-hyps c = rw c.as_slice.ensures (all-closed-kept c.args.problem.now.hyps c.make_terms.ensures.grows c.requires.closed)

pub print-requires-clause-problem : goal.print-requires-clause-problem
print-requires-clause-problem c = record {
  names = (declared-kept c.make_terms.ensures.grows c.args.problem.now.names c.requires.names).1;
  closed = all-closed-kept c.args.problem.now.hyps c.make_terms.ensures.grows c.requires.closed;
}
