use Rattle.std.proofs.Common.{length}
use Rattle.leo_keep.proofs.heads.+may_send.Given as goal

abbrev pub decreases-may_send : goal.decreases-may_send
decreases-may_send l = length l.lits.now
