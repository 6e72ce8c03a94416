use Rattle.leo_terms.specs.Contents.{Extends, tree_at}
use Rattle.leo_clausify.specs.Giving.{AreGivenBy}
use Rattle.leo_ext.proofs.BoundTerms.{given_by}
use Rattle.leo_ext.proofs.substituting.given_for.Given as goal

abbrev pub invariant-loop-number : goal.invariant-loop-number
invariant-loop-number l = Extends l.initial.bank l.bank × AreGivenBy (given_by l.n (tree_at l.initial.bank l.term)) l.initial.bank l.bank l.vars l.sigma.items l.number
