use Rattle.std.proofs.Common.{◌≡◌, ◌<◌, ℕ, List, reverse, length, refl, true, false, Some}
use Rattle.std.specs.Prelude.{Bool, slice_get}
use Rattle.fo_terms.specs.declared.term.FoNode.{FoNode}
use Rattle.fo_terms.specs.declared.bindings.Binding.{Binding}
use Rattle.fo_terms.proofs.Arranging.{AreBindings-reverse, arranged_says, stuck_refuses}
use Rattle.fo_terms.proofs.arrange.arrange.Goals as goal

pub returns-then-are_marked-clause-arranged : goal.returns-then-are_marked-clause-arranged
returns-then-are_marked-clause-arranged c =
    let ns : List FoNode = c.args.places.now.nodes.items in
    let bs : List Binding = c.args.bindings.now.made.items in
    let marks : List Bool = c.sweep.new.self.marks.items in
    let done : List Binding = c.sweep.new.self.done.items in
    let marked : (k : ℕ) → k < length marks → slice_get marks k ≡ Some true = rw c.deref.ensures.value at (c.if-are_marked.ensures.marked refl) in
    let made : c.in_ok-found.found.made.items ≡ reverse done = rw c.deref-then-are_marked.ensures.value at c.in_ok-found.ensures.made in
    rw made (AreBindings-reverse ns done c.in_ok-sweep.ensures.arranged.ordered, arranged_says ns bs marks done c.in_ok-sweep.ensures.arranged marked)

pub returns-clause-refused : goal.returns-clause-refused
returns-clause-refused c =
    let ns : List FoNode = c.args.places.now.nodes.items in
    let bs : List Binding = c.args.bindings.now.made.items in
    let marks : List Bool = c.sweep.new.self.marks.items in
    let some : (k : ℕ) × (slice_get marks k ≡ Some false) = rw c.deref.ensures.value at (c.if-are_marked.ensures.unmarked refl) in
    stuck_refuses ns bs marks c.requires.bindings c.in_ok-sweep.ensures.arranged.as_long (c.in_ok-sweep.ensures.stuck c.if-branch.false) some.0 some.1
