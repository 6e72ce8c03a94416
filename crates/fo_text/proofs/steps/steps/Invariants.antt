use Rattle.std.proofs.Common.{◌≡◌, ◌++◌, length}
use Rattle.std.specs.List.{flat_map}
use Rattle.fo_text.specs.AnswerSpellings.{step_text}
use Rattle.fo_text.specs.AnswerReads.{AreSteps}
use Rattle.fo_text.proofs.steps.steps.Given as goal

abbrev pub invariant-loop-list : goal.invariant-loop-list
invariant-loop-list l = (l.input ≡ flat_map step_text l.list ++ l.rest) × AreSteps l.list

abbrev pub decreases-loop-list : goal.decreases-loop-list
decreases-loop-list l = length l.rest
