use Rattle.std.proofs.lemmas.Result.{err_from_is_err_and}
use Rattle.fo_text.proofs.Composing.{stop-behind}
use Rattle.fo_text.specs.declared.lines.LineKind.{LineKind}
use Rattle.fo_text.specs.AnswerReads.{IsItem, item_text, IsKind, line_word}
use Rattle.fo_text.proofs.AnswerReading.{item-kind}
use Rattle.fo_text.proofs.steps.item.Goals as goal

pub returns-in_err-kind-clause-refused : goal.returns-in_err-kind-clause-refused
returns-in_err-kind-clause-refused c =
    let p = err_from_is_err_and c.from_residual.result c.from_residual.ensures.1 in
    rw (p.1, p.2) (stop-behind IsItem item_text (IsKind {T = LineKind}) line_word c.args.input.now c.args.input.now (λ k r. item-kind c.args.input.now k r) c.in_err-kind.field-0.0 c.in_err-kind.ensures.refused)
