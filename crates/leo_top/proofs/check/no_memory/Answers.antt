use Rattle.leo_top.specs.CheckTexts.{memory_line}
use Rattle.leo_top.proofs.check.no_memory.Goals as goal

pub returns-clause-put : goal.returns-clause-put
unfolding memory_line
returns-clause-put g c = c.put.ensures.put
