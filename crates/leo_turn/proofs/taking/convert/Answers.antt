use Rattle.std.proofs.Common.{◌≡◌, sym, subst, slice_get, Some}
use Rattle.leo_clause.specs.declared.record.StepRecord.{StepRecord}
use Rattle.leo_clause.specs.Trees.{clause_at}
use Rattle.leo_turn.specs.Changing.{IsClauseIn}
use Rattle.leo_turn.specs.Intakes.{normal_clause}
use Rattle.leo_turn.proofs.Converting.{line-converted}
use Rattle.leo_turn.proofs.Growing.{grows-itself, grows-lines}
use Rattle.leo_turn.proofs.Lists.{stands-at, longer-pushed, longer-same}
use Rattle.leo_turn.proofs.taking.convert.Goals as goal

pub returns-in_err-clause-clause-longer : goal.returns-in_err-clause-clause-longer
returns-in_err-clause-clause-longer c = grows-itself c.args.search.now

pub returns-in_err-copy-clause-longer : goal.returns-in_err-copy-clause-longer
returns-in_err-copy-clause-longer c = grows-itself c.args.search.now

pub returns-in_err-push-clause-longer : goal.returns-in_err-push-clause-longer
returns-in_err-push-clause-longer c = grows-lines c.args.search.now c.push.new.self (longer-same c.in_err-push.ensures.err)

pub returns-clause-longer : goal.returns-clause-longer
returns-clause-longer c = grows-lines c.args.search.now c.push.new.self (longer-pushed _ c.in_ok-push.ensures.ok)

pub returns-clause-converted : goal.returns-clause-converted
returns-clause-converted c =
    let stands : slice_get c.args.search.now.lines c.args.line ≡ Some c.index-as_slice-line.result = stands-at c.args.search.now.lines c.args.line c.index-as_slice-line.result c.requires.line (rw c.as_slice.ensures at c.index-as_slice-line.is) in
    rw (c.in_ok-push.ensures.ok, c.in_ok-copy.ensures) (line-converted c.normal.ensures.grows c.args.search.now c.args.line c.index-as_slice-line.result c.in_ok-clause.clause c.requires.search stands (subst (λ (r : StepRecord). IsClauseIn c.normal.new.bank c.in_ok-clause.clause (normal_clause (clause_at c.args.bank.now r.clause))) (sym c.index-as_slice-line.is) c.in_ok-clause.ensures.made))
