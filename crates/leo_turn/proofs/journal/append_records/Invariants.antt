use Rattle.leo_turn.proofs.Numbering.{IsOnWay}
use Rattle.leo_turn.proofs.journal.append_records.Given as goal

abbrev pub invariant-loop-step : goal.invariant-loop-step
invariant-loop-step l = IsOnWay l.bank l.initial.lines l.lines l.numbers l.records l.step-index
