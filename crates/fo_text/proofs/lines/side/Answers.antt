use Rattle.fo_text.specs.declared.answer.FoSide.{FoSide}
use Rattle.fo_text.specs.declared.answer.FoSide.TheVariants.{Left}
use Rattle.std.proofs.lemmas.Result.{err_from_is_err_and}
use Rattle.fo_text.specs.Pieces.{IsKeyword, keyword_text}
use Rattle.fo_text.specs.AnswerReads.{IsKind}
use Rattle.fo_text.specs.AnswerSpellings.{ended_side}
use Rattle.fo_text.proofs.Composing.{stop-behind}
use Rattle.fo_text.proofs.AnswerPieces.{side-apart, choice-empty, choice-unknown, choice-known}
use Rattle.fo_text.proofs.lines.side.Goals as goal

pub returns-in_default-clause-refused : goal.returns-in_default-clause-refused
returns-in_default-clause-refused c = choice-empty (ended_side c.args.end) (side-apart c.args.end) Left c.args.input.now c.in_default.ensures.cases

pub returns-in_default-side_of-clause-refused : goal.returns-in_default-side_of-clause-refused
returns-in_default-side_of-clause-refused c = choice-unknown (ended_side c.args.end) (side-apart c.args.end) Left c.args.input.now c.in-Some.byte.now c.in-Some._behind.now c.in-Some.ensures.cases.0 c.in_default-side_of.ensures

pub returns-in_err-rest-clause-refused : goal.returns-in_err-rest-clause-refused
returns-in_err-rest-clause-refused c =
    let p = err_from_is_err_and c.from_residual.result c.from_residual.ensures.1 in
    rw (p.1, p.2) (stop-behind (IsKind {T = FoSide}) (ended_side c.args.end) IsKeyword (keyword_text c.side_text.result) c.args.input.now c.args.input.now
    (λ k r. choice-known (ended_side c.args.end) (side-apart c.args.end) c.in-Some-side_of.found c.args.input.now c.in-Some.byte.now c.in-Some._behind.now c.in-Some.ensures.cases.0 c.in-Some-side_of.ensures c.side_text.result c.side_text.ensures k r) c.in_err-rest.field-0.0 c.in_err-rest.ensures.refused)
