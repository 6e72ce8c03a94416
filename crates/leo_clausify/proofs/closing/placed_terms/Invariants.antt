use Rattle.leo_terms.specs.Contents.{Extends}
use Rattle.leo_clausify.specs.Giving.{AreGivenBy, placed_tree}
use Rattle.leo_clausify.proofs.closing.placed_terms.Given as goal

abbrev pub invariant-loop-number : goal.invariant-loop-number
invariant-loop-number l = Extends l.initial.bank l.bank × AreGivenBy (placed_tree l.order.keys) l.initial.bank l.bank l.vars l.sigma l.number
