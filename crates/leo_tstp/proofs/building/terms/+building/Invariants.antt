use Rattle.std.proofs.Common.{◌+◌, ◌*◌}
use Rattle.leo_tstp.proofs.building.terms.+building.Given as goal

abbrev pub decreases-build : goal.decreases-build
decreases-build l = 2 * l.room

abbrev pub decreases-both : goal.decreases-both
decreases-both l = 2 * l.room + 1

abbrev pub decreases-under : goal.decreases-under
decreases-under l = 2 * l.room + 1
