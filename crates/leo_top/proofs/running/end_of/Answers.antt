use Rattle.std.proofs.Common.{Some, subst}
use Rattle.leo_core.specs.Books.{standing_of}
use Rattle.leo_core.specs.Machine.{IsOwed}
use Rattle.leo_top.proofs.Runs.{owed_may}
use Rattle.leo_top.proofs.running.end_of.Goals as goal

pub returns-in-Some-End : goal.returns-in-Some-End
returns-in-Some-End c =
    owed_may (subst (λ o. IsOwed c.args.book.now.settings.turns (standing_of c.args.book.now) (Some o)) c.in-Some-End.field-0-is c.in-Some-End.ensures)
