use Rattle.leo_top.specs.Checking.{by_length}
use Rattle.leo_top.proofs.Judging.{content-is, text_answered, fetch_failed, large-lines}
use Rattle.leo_top.proofs.check_answer.answer_proof.Goals as goal

pub returns-in-Got-clause-answer : goal.returns-in-Got-clause-answer
returns-in-Got-clause-answer g c = text_answered _ _ _ _ _ _ _ _ c.answer_text.result (content-is c.new-bytes.ensures.items c.deref.ensures.value c.in-Got.ensures.got) c.answer_text.ensures.answer

pub returns-in-Long-clause-answer : goal.returns-in-Long-clause-answer
returns-in-Long-clause-answer g c =
    record { lines = _; holds = by_length c.in-Long.ensures.long; text_is = large-lines c.as_bytes.ensures.value c.as_bytes-in-Long.ensures.value c.in_ok-text-in-Long.ensures }

pub returns-in-Failed-clause-answer : goal.returns-in-Failed-clause-answer
returns-in-Failed-clause-answer g c = fetch_failed _ _ _ _ _ _ _ c.unreadable.result c.in-Failed.ensures.failed.0 c.in-Failed.ensures.failed.1 c.unreadable.ensures.status c.unreadable.ensures.text
