use Rattle.std.proofs.Common.{sym}
use Rattle.fo_terms.proofs.classes.Classes.join.Goals as goal

pub returns-else-left-right-clause-back : goal.returns-else-left-right-clause-back
returns-else-left-right-clause-back c g a e = c.put-else-left-right.ensures.back g a (sym e)
