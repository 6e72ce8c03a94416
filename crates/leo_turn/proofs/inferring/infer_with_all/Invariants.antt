use Rattle.leo_turn.proofs.Inferred.{AreDoneWith}
use Rattle.leo_turn.proofs.inferring.infer_with_all.Given as goal

abbrev pub invariant-loop-partner : goal.invariant-loop-partner
invariant-loop-partner l = AreDoneWith l.initial.bank l.bank l.initial.search l.search l.given l.partners l.partner-index
