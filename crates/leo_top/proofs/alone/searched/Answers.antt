use Rattle.std.proofs.Common.{◌∙◌, subst, List, ℕ}
use Rattle.leo_top.specs.declared.status.Status.TheVariants.{MemoryOut}
use Rattle.leo_top.specs.Answers.{SaysNoMemory, by_memory}
use Rattle.leo_top.proofs.Answering.{asked_answered, lines_written}
use Rattle.leo_top.proofs.alone.searched.Goals as goal

pub returns-in-Ok-clause-answer : goal.returns-in-Ok-clause-answer
returns-in-Ok-clause-answer g c = λ words k.
    let made = asked_answered c.args.search.now c.as_str-file.ensures.value c.root_of.ensures c.settings_of.ensures c.in-Ok.ensures words k in
    record {
      due = c.in-Ok.answer.status;
      lines = made.lines;
      answers = made.holds;
      written = lines_written _ made.lines _ _ _ _ _ (c.deref.ensures.value ∙ made.text_is) c.written.ensures.written;
    }

pub returns-in-Err-clause-answer : goal.returns-in-Err-clause-answer
returns-in-Err-clause-answer g c = λ words k.
    let w = c.without_memory.ensures.written in
    let P : List ℕ → Type 0 = λ f. SaysNoMemory f w.0 in
    record { due = MemoryOut; lines = w.0; answers = by_memory k (subst P c.as_str-file.ensures.value w.1); written = w.2 }
