use Rattle.std.proofs.Common.{map}
use Rattle.leo_terms.specs.Contents.{Extends, tree_at}
use Rattle.leo_kernel.specs.Steps.{line_at}
use Rattle.leo_derive.specs.Checking.{AreAcceptedBelow}
use Rattle.leo_derive.proofs.checking.check_lines.Given as goal

abbrev pub invariant-loop-number : goal.invariant-loop-number
invariant-loop-number l = Extends l.initial.bank l.bank × AreAcceptedBelow (map (tree_at l.initial.bank) l.hyps) (map (line_at l.initial.bank) l.lines) l.number
