use Rattle.leo_top.proofs.Judging.{accepted-weaker, loaded_answered, proved_false, refusal_answered, refusal_is_not_accepted}
use Rattle.leo_top.proofs.check_answer.answer_check.Goals as goal

pub returns-in-Ok-clause-answer : goal.returns-in-Ok-clause-answer
returns-in-Ok-clause-answer g c =
    loaded_answered _ _ _ c.answer_proof.result c.in-Ok.ensures.problem c.in-Ok.ensures.says c.in-Ok.ensures.never_falls (c.in-Ok.ensures.stays c.args.proof.now) c.answer_proof.ensures.answer

pub returns-in-Ok-clause-falsity : goal.returns-in-Ok-clause-falsity
returns-in-Ok-clause-falsity g c = accepted-weaker c.answer_proof.result (proved_false c.in-Ok.problem c.in-Ok.ensures.says) c.answer_proof.ensures.falsity

pub returns-in-Err-Refused-clause-answer : goal.returns-in-Err-Refused-clause-answer
returns-in-Err-Refused-clause-answer g c =
    refusal_answered _ _ _ _ c.answer_refusal.result c.in-Err-Refused.field-0 c.in-Err-Refused.field-0-is c.in-Err-Refused.ensures.refusal c.in-Err-Refused.ensures.fault c.as_bytes.ensures.value c.as_slice.ensures c.answer_refusal.ensures

pub returns-in-Err-Refused-clause-falsity : goal.returns-in-Err-Refused-clause-falsity
returns-in-Err-Refused-clause-falsity g c = refusal_is_not_accepted _ _ _ _ _ c.answer_refusal.result c.answer_refusal.ensures
