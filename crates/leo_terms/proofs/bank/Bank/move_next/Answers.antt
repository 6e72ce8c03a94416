use Rattle.std.proofs.Common.{ℕ, ◌≡◌, slice_get, Some, true, false, subst}
use Rattle.leo_terms.specs.Contents.{Contents, IsSound}
use Rattle.leo_terms.proofs.Parts.{moved_parts, moved_marked, moved_unmarked, if_both}
use Rattle.leo_terms.proofs.bank.Bank.move_next.Goals as goal

pub move_term-requires-clause-parts : goal.move_term-requires-clause-parts
move_term-requires-clause-parts c =
    let k : slice_get c.args.marks.now c.args.place ≡ Some true = rw c.if-is_marked.true at c.is_marked.ensures in
    let s = subst (λ (v : Contents). IsSound v) c.self.view_is c.self.invariant.sound in
    rw c.new.ensures (moved_parts c.args.self.now c.args.marks.now c.args.part.now c.args.numbers.now c.args.place c.requires.moved (record { mark = k }) c.requires.parts s)

pub returns-then-is_marked : goal.returns-then-is_marked
returns-then-is_marked c =
    let k : slice_get c.args.marks.now c.args.place ≡ Some true = rw c.if-is_marked.true at c.is_marked.ensures in
    record { moved = if_both c.move_term.result _ _ _ (λ r p q. moved_marked c.args.self.now c.args.marks.now c.args.part.now c.args.numbers.now c.args.place c.requires.moved c.move_term.new.part r (record { mark = k }) c.move_term.ensures.grows c.move_term.ensures.rest (rw c.new.ensures at p) q) c.move_term.ensures.made c.move_term.ensures.only }

pub returns-else-is_marked : goal.returns-else-is_marked
returns-else-is_marked c =
    let k : slice_get c.args.marks.now c.args.place ≡ Some false = rw c.if-is_marked.false at c.is_marked.ensures in
    record { moved = moved_unmarked c.args.self.now c.args.marks.now c.args.part.now c.args.numbers.now c.args.place c.requires.moved _ k }
