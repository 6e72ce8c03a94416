-- What is true of the fields of a book. For its type.
use Rattle.std.specs.Prelude.{◌+◌, ◌≤◌, ◌↔◌, IsTrue, vec_capacity}
use Rattle.leo_turn.specs.Turns.{state_of}
use Rattle.leo_core.specs.declared.book.Book.TheInside.{Inside}
use Rattle.leo_core.specs.Books.{Pages, IsBook}
use Rattle.leo_core.specs.Machine.{IsRefuted}

abbrev pub pages_of : Inside → Pages
pages_of b = record { problem = b.problem; settings = b.settings; search = b.search; journal = b.journal.items; ending = b.ending }

-- it is a book, it is known whether the empty clause is kept, and there is room for all events
pub record IsWhole (b : Inside) : Type 0 where
  pub book : IsBook (pages_of b)
  pub refuted : IsTrue b.refuted ↔ IsRefuted (state_of b.problem.bank b.search)
  pub room : b.settings.turns + 1 ≤ vec_capacity b.journal
