use Rattle.std.proofs.Common.{◌≡◌, ◌++◌, length}
use Rattle.fo_terms.specs.Terms.{Terms}
use Rattle.fo_terms.specs.Prefix.{prefix_of_all}
use Rattle.fo_replay.specs.Instances.{as_terms}
use Rattle.fo_replay.proofs.instance.terms_of.Given as goal

abbrev pub invariant-loop-head : goal.invariant-loop-head
invariant-loop-head l = (prefix_of_all (as_terms l.list) ++ l.rest ≡ l.nodes) × ((ts : Terms) × (l.rest ≡ prefix_of_all ts))

abbrev pub decreases-loop-head : goal.decreases-loop-head
decreases-loop-head l = length l.rest
