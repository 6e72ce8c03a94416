use Rattle.std.proofs.lemmas.Result.{err_from_is_err_and}
use Rattle.fo_text.specs.Words.{most_number}
use Rattle.fo_text.specs.Numbers.{IsNumberWord, number_word}
use Rattle.fo_text.specs.declared.number.Ends.TheVariants.{Space}
use Rattle.fo_text.specs.Answers.{IsSmall}
use Rattle.fo_text.specs.AnswerSpellings.{spaced_number}
use Rattle.fo_text.proofs.Composing.{stop-behind}
use Rattle.fo_text.proofs.AnswerPieces.{spaced-stop}
use Rattle.fo_text.proofs.lines.spaced.Goals as goal

pub returns-in_err-value-clause-refused : goal.returns-in_err-value-clause-refused
returns-in_err-value-clause-refused c =
    let p = err_from_is_err_and c.from_residual.result c.from_residual.ensures.1 in
    rw (p.1, p.2) (stop-behind IsSmall spaced_number (IsNumberWord 0 most_number Space) number_word c.args.input.now c.args.input.now (λ k r. spaced-stop c.args.input.now k r) c.in_err-value.field-0.0 c.in_err-value.ensures.refused)
