use Rattle.std.proofs.Common.{◌+◌, ◌*◌}
use Rattle.leo_tstp.proofs.reading.source.Reader.+typing.Given as goal

abbrev pub decreases-read_type : goal.decreases-read_type
decreases-read_type l = 2 * l.room

abbrev pub decreases-arrow : goal.decreases-arrow
decreases-arrow l = 2 * l.room + 1
