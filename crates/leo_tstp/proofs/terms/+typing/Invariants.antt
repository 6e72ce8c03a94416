use Rattle.std.proofs.Common.{◌+◌, ◌*◌}
use Rattle.leo_tstp.proofs.terms.+typing.Given as goal

abbrev pub decreases-write_type_within : goal.decreases-write_type_within
decreases-write_type_within l = 2 * l.room

abbrev pub decreases-write_arrow : goal.decreases-write_arrow
decreases-write_arrow l = 2 * l.room + 1
