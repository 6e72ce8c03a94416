use Rattle.std.proofs.Common.{◌≡◌, None, subst}
use Rattle.leo_core.specs.Books.{Pages, standing_of}
use Rattle.leo_core.specs.Machine.{IsOwed, due, nothing}
use Rattle.leo_core.proofs.book.Book.owed.Goals as goal

pub returns-in-Some : goal.returns-in-Some
returns-in-Some c = subst (λ (q : Pages). IsOwed q.settings.turns (standing_of q) None) c.self.view_is (nothing c.in-Some.field-0 c.in-Some.is)

pub returns-in-None : goal.returns-in-None
returns-in-None c = due c.due.result (subst (λ (q : Pages). q.ending ≡ None) c.self.view_is c.in-None.is) c.due.ensures
