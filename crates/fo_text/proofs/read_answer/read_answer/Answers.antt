use Rattle.std.proofs.Common.{◌≡◌, length, ap, arith}
use Rattle.fo_text.proofs.AnswerReading.{answer_bad, answer_trailing}
use Rattle.fo_text.proofs.read_answer.read_answer.Goals as goal

pub returns-in-Err-At-clause-refused : goal.returns-in-Err-At-clause-refused
returns-in-Err-At-clause-refused c = answer_bad c.args.bytes.now c.in-Err-At.left (rw c.in-Err-At.field-0-is at c.in-Err-At.ensures.refused)

pub returns-in-Ok-clause-refused : goal.returns-in-Ok-clause-refused
returns-in-Ok-clause-refused c =
    answer_trailing c.args.bytes.now c.in-Ok.field-0-0 c.in-Ok.rest.now c.in-Ok.ensures.answer c.in-Ok.ensures.read
    (λ e. let n : length c.in-Ok.rest.now ≡ 0 = ap length e in let some = c.in-Ok.len_at_least in omega arith)
