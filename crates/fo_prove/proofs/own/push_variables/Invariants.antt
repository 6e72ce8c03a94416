use Rattle.std.proofs.Common.{◌≡◌, ◌≤◌, ◌-◌, ◌++◌, map}
use Rattle.fo_terms.specs.Terms.{variable}
use Rattle.fo_terms.specs.Prefix.{prefix_of_all}
use Rattle.fo_replay.specs.Replays.{node_as_word}
use Rattle.fo_super.specs.Conclusions.{images_from}
use Rattle.fo_prove.proofs.own.push_variables.Given as goal

abbrev pub invariant-loop-variable : goal.invariant-loop-variable
invariant-loop-variable l = record {
  within : l.variable ≤ l.count;
  so_far : l.words ++ map node_as_word (prefix_of_all (images_from (λ v. variable v) l.variable (l.count - l.variable))) ≡ l.initial.words ++ map node_as_word (prefix_of_all (images_from (λ v. variable v) 0 l.count));
}

abbrev pub decreases-loop-variable : goal.decreases-loop-variable
decreases-loop-variable l = l.count - l.variable
