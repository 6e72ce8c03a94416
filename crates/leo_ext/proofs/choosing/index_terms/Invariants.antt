use Rattle.leo_terms.specs.Contents.{Extends}
use Rattle.leo_clausify.specs.Giving.{AreGivenBy, index_tree}
use Rattle.leo_ext.proofs.choosing.index_terms.Given as goal

abbrev pub invariant-loop-number : goal.invariant-loop-number
invariant-loop-number l = Extends l.initial.bank l.bank × AreGivenBy (index_tree l.n) l.initial.bank l.bank l.vars l.sigma.items l.number
