use Rattle.leo_top.specs.CheckTexts.{usage_line}
use Rattle.leo_top.proofs.check.usage.Goals as goal

pub returns-clause-put : goal.returns-clause-put
unfolding usage_line
returns-clause-put g c = c.put.ensures.put
