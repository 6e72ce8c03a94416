use Rattle.std.proofs.lemmas.Result.{err_from_is_err_and}
use Rattle.fo_text.specs.Words.{most_number}
use Rattle.fo_text.specs.Numbers.{IsNumberWord, number_word}
use Rattle.fo_text.specs.declared.number.Ends.TheVariants.{SpaceOrLine}
use Rattle.fo_text.specs.Answers.{IsWord}
use Rattle.fo_text.specs.AnswerSpellings.{word_text}
use Rattle.fo_text.specs.AnswerReads.{IsEnded, ended_text}
use Rattle.fo_text.proofs.Composing.{stop-behind}
use Rattle.fo_text.proofs.AnswerPieces.{word-var, word-sym, word-number}
use Rattle.fo_text.proofs.words.word.Goals as goal

pub returns-in_err-variable-clause-refused : goal.returns-in_err-variable-clause-refused
returns-in_err-variable-clause-refused c =
    let p = err_from_is_err_and c.from_residual.result c.from_residual.ensures.1 in
    rw (p.1, p.2) (stop-behind (IsEnded 32 IsWord) (ended_text word_text) (IsNumberWord 0 most_number SpaceOrLine) number_word c.args.input.now c.in-Some.digits.now (λ k r. word-var c.args.input.now c.in-Some.digits.now k c.in-Some.ensures r) c.in_err-variable.field-0.0 c.in_err-variable.ensures.refused)

pub returns-in_err-symbol-clause-refused : goal.returns-in_err-symbol-clause-refused
returns-in_err-symbol-clause-refused c =
    let p = err_from_is_err_and c.from_residual-in_err-symbol.result c.from_residual-in_err-symbol.ensures.1 in
    rw (p.1, p.2) (stop-behind (IsEnded 32 IsWord) (ended_text word_text) (IsNumberWord 0 most_number SpaceOrLine) number_word c.args.input.now c.in-Some-behind_byte.digits.now (λ k r. word-sym c.args.input.now c.in-Some-behind_byte.digits.now k c.in-Some-behind_byte.ensures r) c.in_err-symbol.field-0.0 c.in_err-symbol.ensures.refused)

pub returns-in_err-value-clause-refused : goal.returns-in_err-value-clause-refused
returns-in_err-value-clause-refused c =
    let p = err_from_is_err_and c.from_residual-in_err-value.result c.from_residual-in_err-value.ensures.1 in
    rw (p.1, p.2) (stop-behind (IsEnded 32 IsWord) (ended_text word_text) (IsNumberWord 0 most_number SpaceOrLine) number_word c.args.input.now c.args.input.now (λ k r. word-number c.args.input.now k c.in_default.ensures c.in_default-behind_byte.ensures r) c.in_err-value.field-0.0 c.in_err-value.ensures.refused)
