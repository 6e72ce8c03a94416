use Rattle.std.proofs.Common.{◌∙◌, sym}
use Rattle.leo_top.specs.Checking.{by_refusal}
use Rattle.leo_top.proofs.Judging.{unread_answered, of_file-is, not_of_file}
use Rattle.leo_top.proofs.check_answer.answer_refusal.Goals as goal

pub returns-then-is_of_file : goal.returns-then-is_of_file
returns-then-is_of_file c = unread_answered _ _ _ _ c.unreadable.result (of_file-is c.args.what (sym c.is_of_file.ensures ∙ c.if-is_of_file.true)) c.unreadable.ensures.status c.unreadable.ensures.text

pub returns : goal.returns
returns c = record { lines = _; holds = by_refusal (not_of_file c.is_of_file.ensures c.if-is_of_file.false); text_is = c.in_ok-text.ensures }
