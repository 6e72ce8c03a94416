use Rattle.std.proofs.Common.{length}
use Rattle.leo_keep.proofs.heads.+may_be_among.Given as goal

abbrev pub decreases-may_be_among : goal.decreases-may_be_among
decreases-may_be_among l = length l.others.now
