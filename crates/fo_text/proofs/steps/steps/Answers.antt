use Rattle.std.proofs.lemmas.Result.{err_from_is_err_and}
use Rattle.fo_text.proofs.Composing.{stop-behind}
use Rattle.fo_text.specs.AnswerSpellings.{steps_text}
use Rattle.fo_text.specs.AnswerReads.{IsItem, item_text, AreSteps}
use Rattle.fo_text.proofs.AnswerReading.{steps-stop}
use Rattle.fo_text.proofs.steps.steps.Goals as goal

pub returns-in_err-next-clause-refused : goal.returns-in_err-next-clause-refused
returns-in_err-next-clause-refused c =
    let p = err_from_is_err_and c.from_residual.result c.from_residual.ensures.1 in
    let l = c.loop-list in
    rw (p.1, p.2) (stop-behind AreSteps steps_text IsItem item_text c.args.input.now l.rest.now (λ k r. steps-stop l.list c.args.input.now l.rest.now k l.invariant.1 l.invariant.0 r) c.in_err-next.field-0.0 c.in_err-next.ensures.refused)
