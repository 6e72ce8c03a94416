use Rattle.fo_prove.proofs.Lining.{left_out_of}
use Rattle.fo_prove.proofs.lines.Lines.leave_out.Goals as goal

pub returns : goal.returns
returns c = λ literals m vars terms. left_out_of literals m vars terms _ _ _ _ c.in_ok-push.ensures.ok
