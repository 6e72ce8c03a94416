use Rattle.std.proofs.Common.{◌≡◌, ◌+◌, ◌≤◌, List, None, Some, sym, subst}
use Rattle.leo_turn.specs.Turns.{state_of}
use Rattle.leo_core.specs.declared.event.Event.{Event}
use Rattle.leo_core.specs.Books.{Pages, IsBook}
use Rattle.leo_core.specs.Machine.{MayEnd}
use Rattle.leo_core.proofs.Books.{pages, book_ended, room_left}
use Rattle.leo_core.proofs.book.Book.end.Goals as goal

pub push_reserved-requires : goal.push_reserved-requires
push_reserved-requires c = room_left c.self.invariant (subst (λ (q : Pages). q.ending ≡ None) (sym c.self.view_is) c.requires.going)

pub invariant_of-self : goal.invariant_of-self
invariant_of-self c =
    let i = c.self.inside in
    let going : i.ending ≡ None = subst (λ (q : Pages). q.ending ≡ None) (sym c.self.view_is) c.requires.going in
    let may : MayEnd i.settings.turns (state_of i.problem.bank i.search) c.args.cause = subst (λ (q : Pages). MayEnd q.settings.turns (state_of q.problem.bank q.search) c.args.cause) (sym c.self.view_is) c.requires.cause in
    record {
      book = subst (λ (js : List Event). IsBook (pages i.problem i.settings i.search js (Some c.args.cause))) (sym c.push_reserved.ensures.items) (book_ended c.self.invariant.book c.args.cause going may);
      refuted = c.self.invariant.refuted;
      room = subst (λ n. i.settings.turns + 1 ≤ n) (sym c.push_reserved.ensures.capacity) c.self.invariant.room;
    }
