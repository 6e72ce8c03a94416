use Rattle.fo_super.proofs.Resolutions.{resolved-once, instance-replays, conclusion-replays}
use Rattle.fo_super.proofs.laws.resolution_laws.Goals as goal

pub returns-clause-unique : goal.returns-clause-unique
returns-clause-unique c = λ sorts syms clauses n k vars wars terms others i d j e. resolved-once sorts syms clauses n k vars wars terms others i d j e

pub returns-clause-instances : goal.returns-clause-instances
returns-clause-instances c = instance-replays

pub returns-clause-conclusions : goal.returns-clause-conclusions
returns-clause-conclusions c = conclusion-replays
