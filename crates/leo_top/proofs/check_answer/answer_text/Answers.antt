use Rattle.std.proofs.Common.{[], ◌∷◌}
use Rattle.leo_top.specs.Checking.{stops}
use Rattle.leo_top.specs.CheckTexts.{stopped_line}
use Rattle.leo_top.proofs.Judging.{accepted-weaker, derived-kept}
use Rattle.leo_top.proofs.check_answer.answer_text.Goals as goal

pub returns-in-Ok-clause-falsity : goal.returns-in-Ok-clause-falsity
returns-in-Ok-clause-falsity c =
    accepted-weaker c.judged.result (derived-kept c.requires.problem record { grows = c.in-Ok.ensures.grows; stays = c.in-Ok.ensures.stays }) c.judged.ensures.falsity

pub returns-in_ok-text-in-Err-Bad-clause-answer : goal.returns-in_ok-text-in-Err-Bad-clause-answer
returns-in_ok-text-in-Err-Bad-clause-answer c =
    record { lines = stopped_line c.in-Err-Bad.byte ∷ []; holds = stops c.in-Err-Bad.byte; text_is = c.in_ok-text-in-Err-Bad.ensures }
