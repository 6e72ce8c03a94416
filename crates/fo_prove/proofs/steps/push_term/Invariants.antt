use Rattle.std.proofs.Common.{◌≡◌, ◌++◌, map, take}
use Rattle.fo_replay.specs.Replays.{node_as_word}
use Rattle.fo_prove.proofs.steps.push_term.Given as goal

abbrev pub invariant-loop-node : goal.invariant-loop-node
invariant-loop-node l = l.words ≡ l.initial.words ++ map node_as_word (take l.node-index l.node-items)
