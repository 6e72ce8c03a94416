use Rattle.std.proofs.lemmas.Result.{err_from_is_err_and}
use Rattle.fo_text.proofs.Composing.{stop-behind}
use Rattle.fo_text.specs.Words.{most_number}
use Rattle.fo_text.specs.Pieces.{IsBetween}
use Rattle.fo_text.specs.Spellings.{field_text}
use Rattle.fo_text.specs.Answers.{IsSmall}
use Rattle.fo_text.specs.AnswerSpellings.{spaced_number, drop_word}
use Rattle.fo_text.specs.AnswerReads.{IsItem, item_text}
use Rattle.std.proofs.Common.{[], ◌++◌}
use Rattle.fo_text.proofs.AnswerPieces.{lined-stop}
use Rattle.fo_text.proofs.AnswerReading.{drop-first, drop-second}
use Rattle.fo_text.proofs.steps.dropping.Goals as goal

pub returns-in_err-parent-clause-refused : goal.returns-in_err-parent-clause-refused
returns-in_err-parent-clause-refused c =
    let p = err_from_is_err_and c.from_residual.result c.from_residual.ensures.1 in
    rw (p.1, p.2) (stop-behind IsItem item_text IsSmall spaced_number (drop_word ++ c.args.input.now) c.args.input.now (λ k r. drop-first c.args.input.now k r) c.in_err-parent.field-0.0 c.in_err-parent.ensures.refused)

pub returns-in_err-lit-clause-refused : goal.returns-in_err-lit-clause-refused
returns-in_err-lit-clause-refused c =
    let p = err_from_is_err_and c.from_residual-in_err-lit.result c.from_residual-in_err-lit.ensures.1 in
    let a = c.in_ok-parent in
    rw (p.1, p.2) (stop-behind IsItem item_text (IsBetween 0 most_number) (field_text []) (drop_word ++ c.args.input.now) a.behind.now (λ k r. drop-second a.parent c.args.input.now a.behind.now k a.ensures.read.0 a.ensures.read.1 (lined-stop a.behind.now k r)) c.in_err-lit.field-0.0 c.in_err-lit.ensures.refused)
