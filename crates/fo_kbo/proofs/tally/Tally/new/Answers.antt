use Rattle.std.proofs.Common.{replicate}
use Rattle.fo_kbo.proofs.Tallying.{AreCounts-none, slice_get-zeros}
use Rattle.fo_kbo.proofs.tally.Tally.new.Goals as goal

pub returns : goal.returns
returns c ns at s = AreCounts-none ns at (replicate 64 0) (slice_get-zeros 64)
