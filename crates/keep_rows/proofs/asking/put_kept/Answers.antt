use Rattle.keep_rows.proofs.Ready.{clauses-end, clauses-later}
use Rattle.keep_rows.proofs.asking.put_kept.Goals as goal

pub returns-in_default-clause-kept : goal.returns-in_default-clause-kept
returns-in_default-clause-kept c = clauses-later c.clause_of.ensures.grows c.args.kept.now c.requires.kept

pub returns-then-clauses-ge-MOST-clause-kept : goal.returns-then-clauses-ge-MOST-clause-kept
returns-then-clauses-ge-MOST-clause-kept c = clauses-later c.clause_of.ensures.grows c.args.kept.now c.requires.kept

pub returns-clause-kept : goal.returns-clause-kept
returns-clause-kept c =
    rw c.in_ok-add.ensures.added (clauses-end c.clause_of.new.bank c.args.kept.now c.in-Some.clause (clauses-later c.clause_of.ensures.grows c.args.kept.now c.requires.kept) (rw c.in-Some.is at c.in_ok-read.ensures.clause))
