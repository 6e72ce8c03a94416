use Rattle.std.proofs.lemmas.Result.{err_from_is_err_and}
use Rattle.fo_text.proofs.Composing.{stop-behind}
use Rattle.std.proofs.Common.{Bool, ℕ}
use Rattle.fo_text.specs.declared.lines.FrontKind.{FrontKind}
use Rattle.fo_text.specs.AnswerReads.{IsKind, front_word, front_text}
use Rattle.fo_text.proofs.AnswerReading.{front-stop, beats_on}
use Rattle.fo_text.proofs.read_answer.front.Goals as goal

pub returns-in_err-kind-clause-refused : goal.returns-in_err-kind-clause-refused
returns-in_err-kind-clause-refused c =
    let p = err_from_is_err_and c.from_residual.result c.from_residual.ensures.1 in
    rw (p.1, p.2) (stop-behind (IsKind {T = ℕ × Bool}) front_text (IsKind {T = FrontKind}) front_word c.args.input.now c.loop-kind.rest.now (λ k r. front-stop c.loop-kind.beats c.args.input.now c.loop-kind.rest.now k c.loop-kind.invariant r) c.in_err-kind.field-0.0 c.in_err-kind.ensures.refused)

pub loop-kind-preserved : goal.loop-kind-preserved
loop-kind-preserved c = beats_on c.loop-kind.beats c.args.input.now c.loop-kind.rest.now c.in_ok-kind.left.now c.loop-kind.invariant (rw c.in-Beat.is at c.in_ok-kind.ensures.read)
