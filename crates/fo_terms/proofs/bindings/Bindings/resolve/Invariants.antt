use Rattle.std.proofs.Common.{◌≡◌, ◌<◌, ◌-◌, length}
use Rattle.fo_terms.specs.Substitutions.{Substitution, apply}
use Rattle.fo_terms.specs.Places.{term_at}
use Rattle.fo_terms.specs.Bindings.{Obeys, LeadsPast}
use Rattle.fo_terms.proofs.bindings.Bindings.resolve.Given as goal

abbrev pub invariant-loop-number : goal.invariant-loop-number
invariant-loop-number l =
    (l.here < length l.places.nodes.items)
    × LeadsPast l.places.nodes.items l.self.made.items l.passed l.here
    × ((r : Substitution) → Obeys l.places.nodes.items l.self.made.items r → apply r (term_at l.places.nodes.items l.here) ≡ apply r (term_at l.places.nodes.items l.at))

abbrev pub decreases-loop-number : goal.decreases-loop-number
decreases-loop-number l = length l.self.made.items - l.passed
