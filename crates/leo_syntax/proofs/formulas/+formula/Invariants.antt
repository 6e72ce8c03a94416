use Rattle.std.proofs.Common.{◌+◌, ◌*◌}
use Rattle.leo_syntax.proofs.formulas.+formula.Given as goal

-- a part is read by parts of the level beyond it, or by one that stands lower in this order
abbrev pub decreases-unary : goal.decreases-unary
decreases-unary l = 20 * l.left

abbrev pub decreases-formula : goal.decreases-formula
decreases-formula l = 20 * l.left + 4

abbrev pub decreases-operators : goal.decreases-operators
decreases-operators l = 20 * l.left + 3

abbrev pub decreases-operands : goal.decreases-operands
decreases-operands l = 20 * l.left + 2

abbrev pub decreases-closed : goal.decreases-closed
decreases-closed l = 20 * l.left + 5

abbrev pub decreases-inside : goal.decreases-inside
decreases-inside l = 20 * l.left + 6

abbrev pub decreases-item : goal.decreases-item
decreases-item l = 20 * l.left + 7

abbrev pub decreases-negation : goal.decreases-negation
decreases-negation l = 20 * l.left + 7

abbrev pub decreases-body : goal.decreases-body
decreases-body l = 20 * l.left + 7

abbrev pub decreases-bound : goal.decreases-bound
decreases-bound l = 20 * l.beyond + 8

abbrev pub decreases-arguments : goal.decreases-arguments
decreases-arguments l = 20 * l.left + 1

abbrev pub decreases-argument : goal.decreases-argument
decreases-argument l = 20 * l.beyond + 10

abbrev pub decreases-application : goal.decreases-application
decreases-application l = 20 * l.left + 11

abbrev pub decreases-side : goal.decreases-side
decreases-side l = 20 * l.beyond + 12

abbrev pub decreases-equation : goal.decreases-equation
decreases-equation l = 20 * l.beyond + 13

abbrev pub decreases-term : goal.decreases-term
decreases-term l = 20 * l.beyond + 14
