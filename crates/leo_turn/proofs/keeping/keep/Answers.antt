use Rattle.std.proofs.Common.{length}
use Rattle.leo_turn.proofs.Growing.{grows-at, grows-clause, last-taken_out}
use Rattle.leo_turn.proofs.Lists.{longer-itself, longer-pushed, longer-same}
use Rattle.leo_turn.proofs.keeping.keep.Goals as goal

pub returns-in_err-push-clause-longer : goal.returns-in_err-push-clause-longer
returns-in_err-push-clause-longer c = grows-at c.args.search.now c.push.new.self c.args.search.now.fronts (longer-same c.in_err-push.ensures.err) (longer-itself c.args.search.now.fronts)

pub returns-in_err-add-clause-longer : goal.returns-in_err-add-clause-longer
returns-in_err-add-clause-longer c = grows-at c.args.search.now c.push.new.self c.add.new.self (longer-pushed _ c.in_ok-push.ensures.ok) (longer-same c.in_err-add.ensures.err)

pub returns-in_err-add-2-clause-longer : goal.returns-in_err-add-2-clause-longer
returns-in_err-add-2-clause-longer c = rw c.in_err-add-2.ensures (grows-at c.args.search.now c.push.new.self c.add.new.self (longer-pushed _ c.in_ok-push.ensures.ok) (longer-pushed _ c.in_ok-add.ensures.ok))

pub returns-in-Err-clause-longer : goal.returns-in-Err-clause-longer
returns-in-Err-clause-longer c = rw (c.remove.ensures, c.in_ok-add-2.ensures, c.clauses.ensures, last-taken_out (length c.args.search.now.kept) c.args.weight c.args.search.now.passive c.requires.below, c.in-Err.ensures.err) (grows-at c.args.search.now c.push.new.self c.add.new.self (longer-pushed _ c.in_ok-push.ensures.ok) (longer-pushed _ c.in_ok-add.ensures.ok))

pub returns-in-Ok-clause-longer : goal.returns-in-Ok-clause-longer
returns-in-Ok-clause-longer c = rw (c.in_ok-add-2.ensures, c.clauses.ensures, c.in-Ok.ensures.added, c.in_ok-push.ensures.ok, c.in_ok-add.ensures.ok) (grows-clause c.args.search.now c.args.clause c.args.front c.args.line c.args.weight c.requires.few)
