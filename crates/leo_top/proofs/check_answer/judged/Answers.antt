use Rattle.std.proofs.Common.{[], ◌∷◌, Err, map, subst}
use Rattle.leo_kernel.specs.Steps.{line_at}
use Rattle.leo_derive.specs.Verdicts.{IsVerdict, hypotheses_of}
use Rattle.leo_top.specs.Checking.{accepts, refuses}
use Rattle.leo_top.specs.CheckTexts.{accepted_line, refused_line}
use Rattle.leo_top.proofs.check_answer.judged.Goals as goal

pub returns-in_ok-text-in-Ok-clause-answer : goal.returns-in_ok-text-in-Ok-clause-answer
returns-in_ok-text-in-Ok-clause-answer c = λ p bytes same text.
    record { lines = accepted_line ∷ []; holds = accepts same text c.in-Ok.ensures.verdict; text_is = c.in_ok-text-in-Ok.ensures }

pub returns-in_ok-text-in-Err-No-clause-answer : goal.returns-in_ok-text-in-Err-No-clause-answer
returns-in_ok-text-in-Err-No-clause-answer c = λ p bytes same text.
    let q = c.args.problem.now in
    let refused = subst (λ e. IsVerdict (hypotheses_of q) (map (line_at q.bank) c.args.steps.now) (Err e)) c.in-Err-No.field-0-is c.in-Err-No.ensures.verdict in
    record { lines = refused_line c.in-Err-No.line c.in-Err-No.reason ∷ []; holds = refuses same text refused; text_is = c.in_ok-text-in-Err-No.ensures }
