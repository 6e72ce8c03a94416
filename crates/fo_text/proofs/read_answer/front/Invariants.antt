use Rattle.std.proofs.Common.{◌≡◌, ◌++◌, length}
use Rattle.fo_text.specs.AnswerSpellings.{beats_text}
use Rattle.fo_text.proofs.read_answer.front.Given as goal

abbrev pub invariant-loop-kind : goal.invariant-loop-kind
invariant-loop-kind l = l.input ≡ beats_text l.beats ++ l.rest

abbrev pub decreases-loop-kind : goal.decreases-loop-kind
decreases-loop-kind l = length l.rest
