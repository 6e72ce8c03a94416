use Rattle.std.specs.Prelude.{All, sum_by}
use Rattle.fo_terms.specs.Terms.{Term}
use Rattle.fo_terms.specs.Substitutions.{Substitution}
use Rattle.fo_terms.specs.Bindings.{Obeys}
use Rattle.fo_terms.specs.Classes.{IsAlong}
use Rattle.fo_terms.specs.Solving.{seen, IsWithin, Solves, steps}
use Rattle.fo_terms.proofs.solve.settle.Given as goal

abbrev pub invariant-loop-equation : goal.invariant-loop-equation
invariant-loop-equation l =
    All (IsWithin l.places.nodes.items) l.work.items
    × ((h : Term → Term) (r : Substitution) → Obeys l.places.nodes.items l.bindings.made.items r → IsAlong (seen l.places.nodes.items h r) l.classes.parents.items → All (Solves l.places.nodes.items h r) l.initial.work.items → All (Solves l.places.nodes.items h r) l.work.items)
    × ((h : Term → Term) (r : Substitution) → Obeys l.places.nodes.items l.bindings.made.items r → IsAlong (seen l.places.nodes.items h r) l.classes.parents.items → All (Solves l.places.nodes.items h r) l.work.items → All (Solves l.places.nodes.items h r) l.initial.work.items)

abbrev pub decreases-loop-equation : goal.decreases-loop-equation
decreases-loop-equation l = sum_by steps l.work.items
