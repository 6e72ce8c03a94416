use Rattle.std.proofs.lemmas.Result.{err_from_is_err_and}
use Rattle.fo_text.specs.Spellings.{field_text}
use Rattle.fo_text.specs.Pieces.{IsKeyword, keyword_text, IsBetween}
use Rattle.fo_text.specs.Numbers.{IsNumberWord, number_word}
use Rattle.fo_text.specs.declared.number.Ends.TheVariants.{Line}
use Rattle.fo_text.proofs.Composing.{stop-behind, refuses-same}
use Rattle.fo_text.proofs.Keywords.{field-keyword, field-number}
use Rattle.fo_text.proofs.field.field.Goals as goal

pub returns-in_err-rest-clause-refused : goal.returns-in_err-rest-clause-refused
returns-in_err-rest-clause-refused c =
    let p = err_from_is_err_and c.from_residual.result c.from_residual.ensures.1 in
    let a = c.args in
    rw (p.1, p.2) (stop-behind (IsBetween a.least a.most) (field_text a.word.now) IsKeyword (keyword_text a.word.now) a.input.now a.input.now (λ left r. field-keyword a.least a.most a.word.now a.input.now left c.requires.range.0 r) c.in_err-rest.field-0.0 c.in_err-rest.ensures.refused)

pub returns-in_err-value-clause-refused : goal.returns-in_err-value-clause-refused
returns-in_err-value-clause-refused c =
    let p = err_from_is_err_and c.from_residual-in_err-value.result c.from_residual-in_err-value.ensures.1 in
    let a = c.args in
    rw (p.1, p.2) (stop-behind (IsBetween a.least a.most) (field_text a.word.now) (IsNumberWord a.least a.most Line) number_word a.input.now c.in_ok-rest.rest.now
    (λ left r. refuses-same (IsBetween a.least a.most) (field_text a.word.now) a.input.now _ left c.in_ok-rest.ensures.read (field-number a.least a.most a.word.now c.in_ok-rest.rest.now left r)) c.in_err-value.field-0.0 c.in_err-value.ensures.refused)
