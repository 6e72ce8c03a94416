use Rattle.std.proofs.Common.{◌∙◌, ap}
use Rattle.std.specs.List.{concat}
use Rattle.leo_top.specs.declared.status.Status.TheVariants.{GaveUp}
use Rattle.leo_top.specs.Answers.{status_word}
use Rattle.leo_top.specs.Texts.{about_lines, opening_lines, exhausted_lines}
use Rattle.leo_top.proofs.Answering.{piece-joined}
use Rattle.leo_top.proofs.searching.exhausted_text.Goals as goal

pub returns : goal.returns
returns c =
    piece-joined (opening_lines (status_word GaveUp) c.as_bytes-name.result.now (about_lines c.args.about c.args.statements)) _ c.new-text.ensures.items c.in_ok-add_opening.ensures c.in_ok-add_turns.ensures
    ∙ ap (λ f. concat (exhausted_lines (status_word GaveUp) f (about_lines c.args.about c.args.statements) c.args.turns)) c.as_bytes-name.ensures.value
