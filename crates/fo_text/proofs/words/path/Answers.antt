use Rattle.std.proofs.lemmas.Result.{err_from_is_err_and}
use Rattle.fo_text.proofs.Composing.{stop-behind}
use Rattle.std.proofs.Common.{[], ◌∷◌}
use Rattle.fo_text.specs.Pieces.{IsKeyword, keyword_text}
use Rattle.fo_text.specs.AnswerSpellings.{path_text}
use Rattle.fo_text.specs.AnswerReads.{IsPath}
use Rattle.fo_text.proofs.AnswerPieces.{path-word}
use Rattle.fo_text.proofs.words.path.Goals as goal

pub returns-in_err-rest-in-Some-clause-refused : goal.returns-in_err-rest-in-Some-clause-refused
returns-in_err-rest-in-Some-clause-refused c =
    let p = err_from_is_err_and c.from_residual.result c.from_residual.ensures.1 in
    rw (p.1, p.2) (stop-behind IsPath path_text IsKeyword (keyword_text (101 ∷ 10 ∷ [])) c.args.input.now c.args.input.now (λ k r. path-word c.args.input.now c.in-Some._behind.now k c.in-Some.ensures r) c.in_err-rest-in-Some.field-0.0 c.in_err-rest-in-Some.ensures.refused)
