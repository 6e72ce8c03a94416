use Rattle.std.proofs.Common.{◌∙◌, ap}
use Rattle.std.specs.List.{concat}
use Rattle.leo_tstp.specs.Derivations.{printed}
use Rattle.leo_top.specs.Answers.{status_word}
use Rattle.leo_top.specs.Texts.{about_lines, opening_lines, refuted_lines}
use Rattle.leo_top.proofs.Answering.{pieces-joined}
use Rattle.leo_top.proofs.searching.refuted_text.Goals as goal

pub returns : goal.returns
returns c =
    let about = about_lines c.args.about c.args.problem.now.statements in
    pieces-joined (opening_lines (status_word c.args.status) c.as_bytes-name.result.now about) _ _ _ c.new-text.ensures.items c.in_ok-add_opening.ensures c.in_ok-add_start.ensures c.in_ok-print.ensures.ok c.in_ok-add_end.ensures
    ∙ ap (λ f. concat (refuted_lines (status_word c.args.status) f about (printed c.args.problem.now c.args.steps.now))) c.as_bytes-name.ensures.value
