use Rattle.leo_turn.proofs.Numbering.{way-first, way-named, way-next, way-step}
use Rattle.leo_turn.proofs.journal.append_records.Goals as goal

pub loop-step-init : goal.loop-step-init
loop-step-init c = rw c.in_ok-numbers.ensures (way-first c.args.bank.now c.args.lines.now c.args.first.now c.args.records.now c.requires)

pub append_record-requires-clause-step : goal.append_record-requires-clause-step
append_record-requires-clause-step c = way-step c.args.bank.now c.args.lines.now c.loop-step.lines c.loop-step.numbers c.args.records.now c.loop-step.step-index c.step-item.result c.loop-step.invariant c.loop-step-test.true c.step-item.is

pub append_record-requires-clause-named : goal.append_record-requires-clause-named
append_record-requires-clause-named c = way-named c.args.bank.now c.args.lines.now c.loop-step.lines c.loop-step.numbers c.args.records.now c.loop-step.step-index c.step-item.result c.loop-step.invariant c.loop-step-test.true c.step-item.is

pub loop-step-preserved : goal.loop-step-preserved
loop-step-preserved c = way-next c.args.bank.now c.args.lines.now c.loop-step.lines c.loop-step.numbers c.args.records.now c.loop-step.step-index c.step-item.result c.loop-step.invariant c.loop-step-test.true c.step-item.is c.append_record.new.lines c.append_record.new.numbers c.in_ok-append_record.ensures.appended
