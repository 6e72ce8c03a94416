use Rattle.leo_terms.specs.Contents.{Extends}
use Rattle.leo_clause.specs.Renaming.{AreRenamed}
use Rattle.leo_ext.proofs.substituting.instance_lits.Given as goal

abbrev pub invariant-loop-lit : goal.invariant-loop-lit
invariant-loop-lit l = Extends l.initial.bank l.bank × AreRenamed l.initial.bank l.bank l.sigma l.lits l.made l.lit-index
