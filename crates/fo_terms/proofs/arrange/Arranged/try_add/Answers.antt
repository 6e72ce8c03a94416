use Rattle.std.proofs.Common.{◌≡◌, refl, false, Some}
use Rattle.std.specs.Prelude.{slice_get}
use Rattle.fo_terms.specs.Arranging.{IsReady}
use Rattle.fo_terms.proofs.Arranging.{AreArranged-push, unmarked-set}
use Rattle.fo_terms.proofs.arrange.Arranged.try_add.Goals as goal

pub returns-in_ok-add-clause-arranged : goal.returns-in_ok-add-clause-arranged
returns-in_ok-add-clause-arranged c =
    let not_yet : slice_get c.args.self.now.marks.items c.args.number ≡ Some false = rw c.deref.ensures.value at c.if-is_marked.ensures in
    let ready : IsReady c.args.places.now.nodes.items c.args.bindings.now.made.items c.args.self.now.marks.items c.binding-binding.result.place = rw c.deref-2.ensures.value at (c.if-is_ready.ensures.ready refl) in
    rw (c.in_ok-add.ensures.done, c.in_ok-add.ensures.marks)
    (AreArranged-push c.args.places.now.nodes.items c.args.bindings.now.made.items c.requires.bindings c.args.self.now.marks.items c.args.self.now.done.items c.requires.arranged c.args.number c.binding-binding.result c.binding-binding.ensures not_yet ready)

pub returns-in_ok-add-clause-tried : goal.returns-in_ok-add-clause-tried
returns-in_ok-add-clause-tried c =
    let not_yet : slice_get c.args.self.now.marks.items c.args.number ≡ Some false = rw c.deref.ensures.value at c.if-is_marked.ensures in
    record { kept = λ e. absurd cc; fewer = λ e. rw c.in_ok-add.ensures.marks (unmarked-set c.args.self.now.marks.items c.args.number not_yet) }
