use Rattle.std.proofs.Common.{◌∙◌, ap, codes, [], ◌∷◌}
use Rattle.std.specs.List.{concat}
use Rattle.leo_top.specs.Answers.{for_file, for_program}
use Rattle.leo_top.specs.Texts.{status_line}
use Rattle.leo_top.proofs.Answering.{lines_written}
use Rattle.leo_top.proofs.alone.without_memory.Goals as goal

pub returns-in-Ok-clause-written : goal.returns-in-Ok-clause-written
returns-in-Ok-clause-written g c =
    let made = c.in-Ok.ensures ∙ ap (λ f. concat (status_line (codes "MemoryOut") f ∷ [])) c.as_bytes.ensures.value in
    (_, for_file, lines_written _ (status_line (codes "MemoryOut") c.args.file.now ∷ []) _ _ _ _ _ (c.deref.ensures.value ∙ made) c.written.ensures.written)

pub returns-in-Err-clause-written : goal.returns-in-Err-clause-written
returns-in-Err-clause-written g c = (_, for_program, c.no_memory.ensures.written)
