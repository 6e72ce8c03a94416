use Rattle.std.proofs.Common.{◌+◌, ◌*◌}
use Rattle.leo_tstp.proofs.terms.+writing.Given as goal

abbrev pub decreases-write_signed : goal.decreases-write_signed
decreases-write_signed l = 8 * l.room

abbrev pub decreases-write_argument : goal.decreases-write_argument
decreases-write_argument l = 8 * l.room + 1

abbrev pub decreases-write_infix : goal.decreases-write_infix
decreases-write_infix l = 8 * l.room + 2

abbrev pub decreases-write_behind : goal.decreases-write_behind
decreases-write_behind l = 8 * l.room + 2

abbrev pub decreases-write_binder : goal.decreases-write_binder
decreases-write_binder l = 8 * l.room + 2

abbrev pub decreases-write_quantified : goal.decreases-write_quantified
decreases-write_quantified l = 8 * l.room + 3

abbrev pub decreases-write_logic : goal.decreases-write_logic
decreases-write_logic l = 8 * l.room + 4
