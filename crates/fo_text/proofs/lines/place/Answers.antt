use Rattle.std.proofs.lemmas.Result.{err_from_is_err_and}
use Rattle.fo_text.specs.declared.answer.FoSide.{FoSide}
use Rattle.fo_text.specs.Answers.{IsSmall}
use Rattle.fo_text.specs.AnswerSpellings.{spaced_number, ended_side}
use Rattle.fo_text.specs.AnswerReads.{IsKind, IsPlace, place_word}
use Rattle.fo_text.proofs.Composing.{stop-behind}
use Rattle.fo_text.proofs.AnswerPieces.{place-first, place-second, place-third}
use Rattle.fo_text.proofs.lines.place.Goals as goal

pub returns-in_err-clause-clause-refused : goal.returns-in_err-clause-clause-refused
returns-in_err-clause-clause-refused c =
    let p = err_from_is_err_and c.from_residual.result c.from_residual.ensures.1 in
    rw (p.1, p.2) (stop-behind IsPlace place_word IsSmall spaced_number c.args.input.now c.args.input.now (λ k r. place-first c.args.input.now k r) c.in_err-clause.field-0.0 c.in_err-clause.ensures.refused)

pub returns-in_err-literal-clause-refused : goal.returns-in_err-literal-clause-refused
returns-in_err-literal-clause-refused c =
    let p = err_from_is_err_and c.from_residual-in_err-literal.result c.from_residual-in_err-literal.ensures.1 in
    let a = c.in_ok-clause in
    rw (p.1, p.2) (stop-behind IsPlace place_word IsSmall spaced_number c.args.input.now a.one.now (λ k r. place-second a.clause c.args.input.now a.one.now k a.ensures.read.0 a.ensures.read.1 r) c.in_err-literal.field-0.0 c.in_err-literal.ensures.refused)

pub returns-in_err-found-clause-refused : goal.returns-in_err-found-clause-refused
returns-in_err-found-clause-refused c =
    let p = err_from_is_err_and c.from_residual-in_err-found.result c.from_residual-in_err-found.ensures.1 in
    let a = c.in_ok-clause in
    let b = c.in_ok-literal in
    rw (p.1, p.2) (stop-behind IsPlace place_word (IsKind {T = FoSide}) (ended_side 32) c.args.input.now b.two.now (λ k r. place-third a.clause b.literal c.args.input.now a.one.now b.two.now k a.ensures.read.0 b.ensures.read.0 a.ensures.read.1 b.ensures.read.1 r) c.in_err-found.field-0.0 c.in_err-found.ensures.refused)
