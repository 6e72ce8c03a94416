use Rattle.leo_terms.specs.Contents.{Extends}
use Rattle.leo_clause.specs.Renaming.{IsRenaming}
use Rattle.leo_clause.proofs.arranging.renaming.Given as goal

abbrev pub invariant-loop-number : goal.invariant-loop-number
invariant-loop-number l = Extends l.initial.bank l.bank × IsRenaming l.initial.bank l.bank l.order.keys l.vars l.sigma.items l.number
