use Rattle.std.proofs.Common.{sym, subst, [], ◌∷◌, Ok, Err}
use Rattle.std.proofs.lemmas.List.{append-nil}
use Rattle.leo_command.specs.Commands.{IsAskedOf, IsCheckIn, check_app}
use Rattle.leo_top.specs.declared.check_status.CheckStatus.TheVariants.{MemoryOut, Shown, UsageError}
use Rattle.leo_top.specs.Checking.{by_usage, by_request, by_memory}
use Rattle.leo_top.specs.CheckTexts.{usage_line, memory_line}
use Rattle.leo_top.proofs.Judging.{lines_put, never-accepted}
use Rattle.leo_top.proofs.check.check_proof.Goals as goal

pub returns-in-Ok-Work-clause-answer : goal.returns-in-Ok-Work-clause-answer
returns-in-Ok-Work-clause-answer g c =
    c.checked.ensures.answer c.args.words.now (subst (λ a. IsAskedOf check_app IsCheckIn c.args.words.now (Ok a)) c.in-Ok-Work.field-0-is c.in-Ok-Work.ensures)

pub returns-in-Ok-Work-clause-accepted : goal.returns-in-Ok-Work-clause-accepted
returns-in-Ok-Work-clause-accepted g c = λ e. record {
  check = c.in-Ok-Work.check;
  command = subst (λ a. IsAskedOf check_app IsCheckIn c.args.words.now (Ok a)) c.in-Ok-Work.field-0-is c.in-Ok-Work.ensures;
  refuted = c.checked.ensures.accepted e;
}

pub returns-in-Ok-Print-clause-answer : goal.returns-in-Ok-Print-clause-answer
returns-in-Ok-Print-clause-answer g c = record {
  due = Shown;
  lines = c.as_bytes.result.now ∷ [];
  answers = by_request (subst (λ a. IsAskedOf check_app IsCheckIn c.args.words.now (Ok a)) c.in-Ok-Print.field-0-is c.in-Ok-Print.ensures);
  put = lines_put (c.as_bytes.result.now ∷ []) (sym (append-nil c.as_bytes.result.now)) c.put.ensures.put;
}

pub returns-in-Ok-Print-clause-accepted : goal.returns-in-Ok-Print-clause-accepted
returns-in-Ok-Print-clause-accepted g c = λ e. absurd (never-accepted Shown (λ k. (cc)) c.put.ensures.put e)

pub returns-in-Err-Usage-clause-answer : goal.returns-in-Err-Usage-clause-answer
returns-in-Err-Usage-clause-answer g c =
    let none = subst (λ e. IsAskedOf check_app IsCheckIn c.args.words.now (Err e)) c.in-Err-Usage.field-0-is c.in-Err-Usage.ensures in
    record { due = UsageError; lines = usage_line ∷ []; answers = by_usage record { no_check = none.0 }; put = c.usage.ensures.put }

pub returns-in-Err-Usage-clause-accepted : goal.returns-in-Err-Usage-clause-accepted
returns-in-Err-Usage-clause-accepted g c = λ e. absurd (never-accepted UsageError (λ k. (cc)) c.usage.ensures.put e)

pub returns-in-Err-Memory-clause-answer : goal.returns-in-Err-Memory-clause-answer
returns-in-Err-Memory-clause-answer g c = record { due = MemoryOut; lines = memory_line ∷ []; answers = by_memory; put = c.no_memory.ensures.put }

pub returns-in-Err-Memory-clause-accepted : goal.returns-in-Err-Memory-clause-accepted
returns-in-Err-Memory-clause-accepted g c = λ e. absurd (never-accepted MemoryOut (λ k. (cc)) c.no_memory.ensures.put e)
