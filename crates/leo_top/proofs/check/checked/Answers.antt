use Rattle.std.proofs.Common.{◌∙◌, [], ◌∷◌}
use Rattle.leo_top.specs.declared.check_status.CheckStatus.TheVariants.{MemoryOut}
use Rattle.leo_top.specs.Checking.{by_memory}
use Rattle.leo_top.specs.CheckTexts.{memory_line}
use Rattle.leo_top.proofs.Judging.{asked_answered, lines_put, proved-named, put_accepts, never-accepted}
use Rattle.leo_top.proofs.check.checked.Goals as goal

pub returns-in-Ok-clause-answer : goal.returns-in-Ok-clause-answer
returns-in-Ok-clause-answer g c = λ words k.
    let made = asked_answered c.args.check.now c.as_str-file.ensures.value c.as_str-proof.ensures.value c.root_of.ensures c.in-Ok.ensures.answer words k in
    record { due = c.in-Ok.answer.status; lines = made.lines; answers = made.holds; put = lines_put made.lines (c.deref.ensures.value ∙ made.text_is) c.put.ensures.put }

pub returns-in-Ok-clause-accepted : goal.returns-in-Ok-clause-accepted
returns-in-Ok-clause-accepted g c = λ e.
    proved-named c.args.check.now c.as_str-file.ensures.value c.root_of.ensures (c.in-Ok.ensures.falsity (put_accepts c.put.ensures.put e))

pub returns-in-Err-clause-answer : goal.returns-in-Err-clause-answer
returns-in-Err-clause-answer g c = λ words k. record { due = MemoryOut; lines = memory_line ∷ []; answers = by_memory; put = c.no_memory.ensures.put }

pub returns-in-Err-clause-accepted : goal.returns-in-Err-clause-accepted
returns-in-Err-clause-accepted g c = λ e. absurd (never-accepted MemoryOut (λ k. (cc)) c.no_memory.ensures.put e)
