use Rattle.std.proofs.Common.{length}
use Rattle.leo_para.proofs.meeting.+give.Given as goal

abbrev pub decreases-give : goal.decreases-give
decreases-give l = length l.equations.now
