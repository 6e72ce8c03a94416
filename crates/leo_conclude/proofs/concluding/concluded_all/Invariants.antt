use Rattle.std.proofs.Common.{◌≡◌, map, take}
use Rattle.leo_terms.specs.Contents.{Extends}
use Rattle.leo_clause.specs.Trees.{clause_at}
use Rattle.leo_unify.specs.Solutions.{sigma_at}
use Rattle.leo_conclude.specs.Conclusions.{conclusion}
use Rattle.leo_conclude.specs.Results.{AreConclusionsOf, conclusion_clause}
use Rattle.leo_conclude.proofs.concluding.concluded_all.Given as goal

abbrev pub invariant-loop-sigma : goal.invariant-loop-sigma
invariant-loop-sigma l =
    Extends l.initial.bank l.bank ×
    (AreConclusionsOf l.bank (clause_at l.initial.bank l.clause) l.found × (map (conclusion_clause l.bank) l.found ≡ map (conclusion (clause_at l.initial.bank l.clause) l.constraints) (map (sigma_at l.initial.bank) (take l.sigma-index l.sigmas))))
