use Rattle.std.proofs.Common.{◌≡◌, ◌++◌, length}
use Rattle.fo_text.specs.Problems.{AreSorts}
use Rattle.fo_replay.specs.Instances.{numbers_as_words}
use Rattle.fo_replay.proofs.instance.sorts_of.Given as goal

abbrev pub invariant-loop-word : goal.invariant-loop-word
invariant-loop-word l = (l.words ≡ numbers_as_words l.list ++ l.rest) × AreSorts l.sorts l.list

abbrev pub decreases-loop-word : goal.decreases-loop-word
decreases-loop-word l = length l.rest
