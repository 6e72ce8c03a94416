use Rattle.fo_terms.specs.Places.{IsPassed}
use Rattle.fo_terms.proofs.places.behind_arguments.Given as goal

abbrev pub invariant-loop-passed : goal.invariant-loop-passed
invariant-loop-passed l = IsPassed l.nodes l.at l.passed l.end
