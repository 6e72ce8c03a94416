use Rattle.std.proofs.Common.{◌≡◌, ◌++◌, map, drop}
use Rattle.fo_terms.specs.Prefix.{prefix_of_all}
use Rattle.fo_replay.specs.Instances.{as_terms}
use Rattle.fo_replay.specs.Replays.{node_as_word}
use Rattle.fo_prove.proofs.steps.push_terms.Given as goal

abbrev pub invariant-loop-term : goal.invariant-loop-term
invariant-loop-term l = l.words ++ map node_as_word (prefix_of_all (as_terms (drop l.term-index l.terms))) ≡ l.initial.words ++ map node_as_word (prefix_of_all (as_terms l.terms))
