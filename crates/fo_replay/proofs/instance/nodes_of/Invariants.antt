use Rattle.std.proofs.Common.{◌≡◌, ◌++◌, List, length}
use Rattle.fo_text.specs.declared.answer.FoWord.{FoWord}
use Rattle.fo_replay.specs.Instances.{AreNodesOf}
use Rattle.fo_replay.proofs.instance.nodes_of.Given as goal

abbrev pub invariant-loop-word : goal.invariant-loop-word
invariant-loop-word l = (front : List FoWord) × (l.words ≡ front ++ l.rest) × AreNodesOf l.syms front l.list.items

abbrev pub decreases-loop-word : goal.decreases-loop-word
decreases-loop-word l = length l.rest
