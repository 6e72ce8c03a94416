use Rattle.fo_prove.proofs.Lining.{added_text}
use Rattle.fo_prove.proofs.lines.Lines.add_text.Goals as goal

pub returns : goal.returns
returns c = λ literals mark. added_text literals mark _ _ _ _ c.len-number.result c.len-number.ensures c.in_ok-push.ensures.ok
