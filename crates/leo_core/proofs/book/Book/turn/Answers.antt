use Rattle.std.proofs.Common.{◌+◌, ◌≤◌, List, Some, length, ap, sym, subst}
use Rattle.leo_clause.specs.declared.clause.Clause.{Clause}
use Rattle.leo_derive.proofs.CallerLemmas.{in_bank}
use Rattle.leo_core.specs.declared.event.Event.{Event}
use Rattle.leo_core.specs.declared.event.Owed.TheVariants as owed
use Rattle.leo_core.specs.Books.{Pages, HasTurned, IsBook, IsUnchanged, standing_of}
use Rattle.leo_core.specs.Machine.{IsOwed}
use Rattle.leo_core.proofs.Books.{pages, owed_is_due, turn_has_passive, turn_not_refuted, turns_fit, whole_kept, book_unchanged, room_left, book_turned, has_turned, refuted_after, on_err}
use Rattle.leo_core.proofs.book.Book.turn.Goals as goal

pub turn-requires-clause-passive : goal.turn-requires-clause-passive
turn-requires-clause-passive c =
    let i = c.self.inside in
    let d = owed_is_due owed.Turn (subst (λ (q : Pages). IsOwed q.settings.turns (standing_of q) (Some owed.Turn)) (sym c.self.view_is) c.requires) in
    turn_has_passive d.1

pub turn-requires-clause-turns : goal.turn-requires-clause-turns
turn-requires-clause-turns c =
    let i = c.self.inside in
    let d = owed_is_due owed.Turn (subst (λ (q : Pages). IsOwed q.settings.turns (standing_of q) (Some owed.Turn)) (sym c.self.view_is) c.requires) in
    turns_fit c.self.invariant.book d.0

pub invariant_of-self : goal.invariant_of-self
invariant_of-self c = whole_kept c.self.invariant c.turn.ensures.grows c.turn.ensures.search c.in_err-record.ensures.err

pub returns-in_err-record-clause-err : goal.returns-in_err-record-clause-err
returns-in_err-record-clause-err c =
    let i = c.self.inside in
    on_err c.from_residual.result _ (subst (λ (q : Pages). IsUnchanged q (pages (in_bank i.problem c.turn.new.bank) i.settings c.turn.new.search i.journal.items i.ending)) c.self.view_is
    (book_unchanged c.self.invariant c.turn.ensures.grows c.turn.ensures.search c.in_err-record.ensures.err))

pub returns-in_err-record-clause-book : goal.returns-in_err-record-clause-book
returns-in_err-record-clause-book c = (whole_kept c.self.invariant c.turn.ensures.grows c.turn.ensures.search c.in_err-record.ensures.err).book

pub push_reserved-requires : goal.push_reserved-requires
push_reserved-requires c =
    let i = c.self.inside in
    let d = owed_is_due owed.Turn (subst (λ (q : Pages). IsOwed q.settings.turns (standing_of q) (Some owed.Turn)) (sym c.self.view_is) c.requires) in
    room_left c.self.invariant d.0

pub invariant_of-self-2 : goal.invariant_of-self-2
invariant_of-self-2 c =
    let i = c.self.inside in
    let d = owed_is_due owed.Turn (subst (λ (q : Pages). IsOwed q.settings.turns (standing_of q) (Some owed.Turn)) (sym c.self.view_is) c.requires) in
    record {
      book = subst (λ (js : List Event). IsBook (pages (in_bank i.problem c.turn.new.bank) i.settings c.turn.new.search js i.ending)) (sym c.push_reserved.ensures.items)
          (book_turned c.self.invariant.book c.turn.ensures.grows c.turn.ensures.search c.turn.ensures.fixed d.0 d.1 c.in_ok-record.ensures.turn);
      refuted = refuted_after i.problem.bank c.turn.new.bank i.search c.turn.new.search c.has_empty-self-inside.result (turn_not_refuted d.1) c.in_ok-record.ensures.turn (length c.clauses-count.result.now) c.clauses.result.now
          (ap (λ (ks : List Clause). length ks) c.clauses-count.ensures) c.clauses.ensures c.has_empty-self-inside.ensures;
      room = subst (λ n. i.settings.turns + 1 ≤ n) (sym c.push_reserved.ensures.capacity) c.self.invariant.room;
    }

pub returns-clause-turned : goal.returns-clause-turned
returns-clause-turned c =
    let i = c.self.inside in
    let d = owed_is_due owed.Turn (subst (λ (q : Pages). IsOwed q.settings.turns (standing_of q) (Some owed.Turn)) (sym c.self.view_is) c.requires) in
    subst (λ (q : Pages). HasTurned q (pages (in_bank i.problem c.turn.new.bank) i.settings c.turn.new.search c.push_reserved.new.self.items i.ending)) c.self.view_is
    (subst (λ (js : List Event). HasTurned (pages i.problem i.settings i.search i.journal.items i.ending) (pages (in_bank i.problem c.turn.new.bank) i.settings c.turn.new.search js i.ending)) (sym c.push_reserved.ensures.items)
    (has_turned c.self.invariant.book c.turn.ensures.grows c.turn.ensures.search c.turn.ensures.fixed d.0 d.1 c.in_ok-record.ensures.turn))

pub returns-clause-book : goal.returns-clause-book
returns-clause-book c =
    let i = c.self.inside in
    let d = owed_is_due owed.Turn (subst (λ (q : Pages). IsOwed q.settings.turns (standing_of q) (Some owed.Turn)) (sym c.self.view_is) c.requires) in
    subst (λ (js : List Event). IsBook (pages (in_bank i.problem c.turn.new.bank) i.settings c.turn.new.search js i.ending)) (sym c.push_reserved.ensures.items)
    (book_turned c.self.invariant.book c.turn.ensures.grows c.turn.ensures.search c.turn.ensures.fixed d.0 d.1 c.in_ok-record.ensures.turn)
