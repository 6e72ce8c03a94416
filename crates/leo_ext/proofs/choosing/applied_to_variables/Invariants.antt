use Rattle.std.proofs.Common.{take, map}
use Rattle.leo_terms.specs.Contents.{Extends, tree_at, type_at}
use Rattle.leo_kernel.specs.Choosing.{applied_to}
use Rattle.leo_clausify.specs.Choosing.{variable_terms}
use Rattle.leo_clausify.specs.Picking.{IsTree}
use Rattle.leo_ext.proofs.choosing.applied_to_variables.Given as goal

abbrev pub invariant-loop-place : goal.invariant-loop-place
invariant-loop-place l = Extends l.initial.bank l.bank × IsTree l.bank l.whole (applied_to (tree_at l.initial.bank l.initial.whole) (take l.place (variable_terms (map (type_at l.initial.bank) l.vars) l.order.keys)))
