use Rattle.leo_top.specs.Texts.{status_line}
use Rattle.leo_top.proofs.alone.usage.Goals as goal

pub returns-clause-written : goal.returns-clause-written
unfolding status_line
returns-clause-written g c = c.written.ensures.written
