use Rattle.fo_text.specs.declared.lines.LineKind.{LineKind}
use Rattle.fo_text.specs.declared.lines.LineKind.TheVariants.{Finish}
use Rattle.std.proofs.lemmas.Result.{err_from_is_err_and}
use Rattle.fo_text.specs.Pieces.{IsKeyword, keyword_text}
use Rattle.fo_text.specs.AnswerReads.{IsKind, line_word}
use Rattle.fo_text.proofs.Composing.{stop-behind}
use Rattle.fo_text.proofs.AnswerPieces.{line-apart, choice-empty, choice-unknown, choice-known}
use Rattle.fo_text.proofs.lines.line_kind.Goals as goal

pub returns-in_default-clause-refused : goal.returns-in_default-clause-refused
returns-in_default-clause-refused c = choice-empty line_word line-apart Finish c.args.input.now c.in_default.ensures.cases

pub returns-in_default-line_of-clause-refused : goal.returns-in_default-line_of-clause-refused
returns-in_default-line_of-clause-refused c = choice-unknown line_word line-apart Finish c.args.input.now c.in-Some.byte.now c.in-Some._behind.now c.in-Some.ensures.cases.0 c.in_default-line_of.ensures

pub returns-in_err-rest-clause-refused : goal.returns-in_err-rest-clause-refused
returns-in_err-rest-clause-refused c =
    let p = err_from_is_err_and c.from_residual.result c.from_residual.ensures.1 in
    rw (p.1, p.2) (stop-behind (IsKind {T = LineKind}) line_word IsKeyword (keyword_text c.line_text.result.now) c.args.input.now c.args.input.now
    (λ k r. choice-known line_word line-apart c.in-Some-line_of.kind c.args.input.now c.in-Some.byte.now c.in-Some._behind.now c.in-Some.ensures.cases.0 c.in-Some-line_of.ensures c.line_text.result.now c.line_text.ensures k r) c.in_err-rest.field-0.0 c.in_err-rest.ensures.refused)
