use Rattle.std.proofs.Common.{◌≡◌, ◌+◌, ◌≤◌, length}
use Rattle.fo_terms.specs.Terms.{count}
use Rattle.fo_terms.specs.Places.{terms_at, IsFullFrom}
use Rattle.fo_terms.proofs.term.is_prefix.Given as goal

abbrev pub invariant-loop-at : goal.invariant-loop-at
invariant-loop-at l = (l.at ≤ length l.nodes) × (l.terms ≡ count (terms_at l.nodes l.at)) × IsFullFrom l.at l.nodes × (l.terms + l.at ≤ length l.nodes)

abbrev pub decreases-loop-at : goal.decreases-loop-at
decreases-loop-at l = l.at
