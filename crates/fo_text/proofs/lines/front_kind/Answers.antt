use Rattle.fo_text.specs.declared.lines.FrontKind.{FrontKind}
use Rattle.fo_text.specs.declared.lines.FrontKind.TheVariants.{Beat}
use Rattle.std.proofs.lemmas.Result.{err_from_is_err_and}
use Rattle.fo_text.specs.Pieces.{IsKeyword, keyword_text}
use Rattle.fo_text.specs.AnswerReads.{IsKind, front_word}
use Rattle.fo_text.proofs.Composing.{stop-behind}
use Rattle.fo_text.proofs.AnswerPieces.{front-apart, choice-empty, choice-unknown, choice-known}
use Rattle.fo_text.proofs.lines.front_kind.Goals as goal

pub returns-in_default-clause-refused : goal.returns-in_default-clause-refused
returns-in_default-clause-refused c = choice-empty front_word front-apart Beat c.args.input.now c.in_default.ensures.cases

pub returns-in_default-front_of-clause-refused : goal.returns-in_default-front_of-clause-refused
returns-in_default-front_of-clause-refused c = choice-unknown front_word front-apart Beat c.args.input.now c.in-Some.byte.now c.in-Some._behind.now c.in-Some.ensures.cases.0 c.in_default-front_of.ensures

pub returns-in_err-rest-clause-refused : goal.returns-in_err-rest-clause-refused
returns-in_err-rest-clause-refused c =
    let p = err_from_is_err_and c.from_residual.result c.from_residual.ensures.1 in
    rw (p.1, p.2) (stop-behind (IsKind {T = FrontKind}) front_word IsKeyword (keyword_text c.front_text.result.now) c.args.input.now c.args.input.now
    (λ k r. choice-known front_word front-apart c.in-Some-front_of.kind c.args.input.now c.in-Some.byte.now c.in-Some._behind.now c.in-Some.ensures.cases.0 c.in-Some-front_of.ensures c.front_text.result.now c.front_text.ensures k r) c.in_err-rest.field-0.0 c.in_err-rest.ensures.refused)
