use Rattle.fo_prove.proofs.Lining.{added_member}
use Rattle.fo_prove.proofs.lines.Lines.add_member.Goals as goal

pub returns : goal.returns
returns c =
    let all = rw c.as_slice.ensures at c.in_ok-steps.ensures in
    added_member _ _ _ _ _ _ c.count_lines.result _ _ _ c.in_ok-steps.steps _ all c.in_ok-next.ensures c.count_lines.ensures.count c.in_ok-push.ensures.ok c.in_ok-append.ensures
