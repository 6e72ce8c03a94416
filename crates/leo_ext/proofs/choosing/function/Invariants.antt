use Rattle.std.proofs.Common.{◌-◌, drop, length, map}
use Rattle.leo_terms.specs.Contents.{Extends, tree_at, type_at}
use Rattle.leo_clausify.specs.Choosing.{function_of}
use Rattle.leo_clausify.specs.Picking.{IsTree}
use Rattle.leo_ext.proofs.choosing.function.Given as goal

abbrev pub invariant-loop-done : goal.invariant-loop-done
invariant-loop-done l = Extends l.initial.bank l.bank × IsTree l.bank l.whole (function_of (map (type_at l.initial.bank) l.vars) (drop (length l.order.keys - l.done) l.order.keys) (tree_at l.initial.bank l.initial.whole))
