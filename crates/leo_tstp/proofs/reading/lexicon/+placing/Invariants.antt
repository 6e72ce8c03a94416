use Rattle.std.proofs.Common.{◌+◌, ◌*◌}
use Rattle.leo_tstp.proofs.reading.lexicon.+placing.Given as goal

abbrev pub decreases-type_place : goal.decreases-type_place
decreases-type_place l = 2 * l.room

abbrev pub decreases-arrow_place : goal.decreases-arrow_place
decreases-arrow_place l = 2 * l.room + 1
