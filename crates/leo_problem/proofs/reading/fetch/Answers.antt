use Rattle.leo_problem.specs.Gathering as gathering
use Rattle.leo_problem.proofs.reading.fetch.Goals as goal

pub returns-in-Long-clause-refusal : goal.returns-in-Long-clause-refusal
returns-in-Long-clause-refusal g c = λ n. rw (c.refused.ensures n) (record { gathers = λ folder level. gathering.too_large (rw (c.room.ensures, c.in-Ok.ensures.cases.0) at c.in-Long.ensures.long) })

pub returns-in-Failed-clause-refusal : goal.returns-in-Failed-clause-refusal
returns-in-Failed-clause-refusal g c = λ n. rw (c.refused-in-Failed.ensures n) (record { gathers = λ folder level. gathering.unread })
