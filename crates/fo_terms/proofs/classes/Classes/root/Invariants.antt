use Rattle.std.proofs.Common.{◌≡◌, ◌<◌, ℕ, length}
use Rattle.fo_terms.specs.Terms.{Term}
use Rattle.fo_terms.specs.Classes.{IsAlong}
use Rattle.fo_terms.proofs.classes.Classes.root.Given as goal

abbrev pub invariant-loop-here : goal.invariant-loop-here
invariant-loop-here l = (l.here < length l.self.parents.items) × ((g : ℕ → Term) → IsAlong g l.self.parents.items → g l.here ≡ g l.at)

abbrev pub decreases-loop-here : goal.decreases-loop-here
decreases-loop-here l = l.here
