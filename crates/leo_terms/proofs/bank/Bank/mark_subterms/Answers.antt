use Rattle.std.proofs.Common.{ℕ, ◌≡◌, ◌-◌, slice_get, Some, true, false, arith}
use Rattle.leo_terms.proofs.Parts.{needed_marked, needed_unmarked}
use Rattle.leo_terms.proofs.bank.Bank.mark_subterms.Goals as goal

pub loop-place-preserved-then-is_marked : goal.loop-place-preserved-then-is_marked
loop-place-preserved-then-is_marked c =
    let k : slice_get c.loop-place.marks.items (c.loop-place.place - 1) ≡ Some true = rw (c.deref.ensures.value, c.if-is_marked.true) at c.is_marked.ensures in
    needed_marked c.args.self.now c.top-view.ensures.sound c.args.terms.now c.loop-place.marks.items c.mark_parts.new.marks.items (c.loop-place.place - 1) c.loop-place.place c.top-view.result (omega arith) (rw c.new.ensures at c.top-view.ensures.view) k c.loop-place.invariant c.mark_parts.ensures

pub loop-place-preserved : goal.loop-place-preserved
loop-place-preserved c =
    let k : slice_get c.loop-place.marks.items (c.loop-place.place - 1) ≡ Some false = rw (c.deref.ensures.value, c.if-is_marked.false) at c.is_marked.ensures in
    needed_unmarked c.args.self.now c.args.terms.now c.loop-place.marks.items (c.loop-place.place - 1) c.loop-place.place (omega arith) k c.loop-place.invariant
