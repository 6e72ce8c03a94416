use Rattle.std.proofs.Common.{◌≡◌, ◌++◌}
use Rattle.std.specs.Prelude.{reverse}
use Rattle.fo_super.specs.Marks.{children}
use Rattle.fo_super.proofs.marking.push_children.Given as goal

abbrev pub invariant-loop-left : goal.invariant-loop-left
invariant-loop-left l = children l.place 0 l.left ++ reverse l.places.items ≡ children l.place 0 l.arguments ++ reverse l.fn.places.items

abbrev pub decreases-loop-left : goal.decreases-loop-left
decreases-loop-left l = l.left
