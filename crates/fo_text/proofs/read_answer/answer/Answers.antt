use Rattle.std.proofs.lemmas.Result.{err_from_is_err_and}
use Rattle.fo_text.proofs.Composing.{stop-behind}
use Rattle.std.proofs.Common.{Bool, ℕ}
use Rattle.fo_text.specs.Answers.{IsAnswer}
use Rattle.fo_text.specs.AnswerSpellings.{answer_text, steps_text}
use Rattle.fo_text.specs.AnswerReads.{IsKind, front_text, AreSteps}
use Rattle.fo_text.proofs.AnswerReading.{answer-front, answer-steps}
use Rattle.fo_text.proofs.read_answer.answer.Goals as goal

pub returns-in_err-beats-clause-refused : goal.returns-in_err-beats-clause-refused
returns-in_err-beats-clause-refused c =
    let p = err_from_is_err_and c.from_residual.result c.from_residual.ensures.1 in
    rw (p.1, p.2) (stop-behind IsAnswer answer_text (IsKind {T = ℕ × Bool}) front_text c.args.input.now c.args.input.now (λ k r. answer-front c.args.input.now k r) c.in_err-beats.field-0.0 c.in_err-beats.ensures.refused)

pub returns-in_err-list-clause-refused : goal.returns-in_err-list-clause-refused
returns-in_err-list-clause-refused c =
    let p = err_from_is_err_and c.from_residual-in_err-list.result c.from_residual-in_err-list.ensures.1 in
    let f = c.in_ok-beats in
    rw (p.1, p.2) (stop-behind IsAnswer answer_text AreSteps steps_text c.args.input.now f.behind.now (λ k r. answer-steps f.beats c.args.input.now f.behind.now k (rw c.if-refuted.true at f.ensures.read) r) c.in_err-list.field-0.0 c.in_err-list.ensures.refused)
