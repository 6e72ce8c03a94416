use Rattle.std.proofs.Common.{◌+◌, ◌*◌}
use Rattle.leo_tstp.proofs.reading.source.Reader.+term.Given as goal

abbrev pub decreases-term : goal.decreases-term
decreases-term l = 8 * l.room

abbrev pub decreases-inside : goal.decreases-inside
decreases-inside l = 8 * l.room + 5

abbrev pub decreases-lambda : goal.decreases-lambda
decreases-lambda l = 8 * l.room + 3

abbrev pub decreases-under : goal.decreases-under
decreases-under l = 8 * l.room + 1

abbrev pub decreases-quantified : goal.decreases-quantified
decreases-quantified l = 8 * l.room + 3

abbrev pub decreases-set : goal.decreases-set
decreases-set l = 8 * l.room + 3

abbrev pub decreases-negation : goal.decreases-negation
decreases-negation l = 8 * l.room + 3

abbrev pub decreases-first : goal.decreases-first
decreases-first l = 8 * l.room + 1

abbrev pub decreases-behind : goal.decreases-behind
decreases-behind l = 8 * l.room + 4

abbrev pub decreases-application : goal.decreases-application
decreases-application l = 8 * l.room + 3

abbrev pub decreases-joined : goal.decreases-joined
decreases-joined l = 8 * l.room + 3

abbrev pub decreases-equation : goal.decreases-equation
decreases-equation l = 8 * l.room + 3
