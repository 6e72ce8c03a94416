use Rattle.leo_sound.proofs.LawProofs as law
use Rattle.leo_sound.proofs.laws.instance_laws.Goals as goal

pub returns-clause-instances : goal.returns-clause-instances
returns-clause-instances c = law.instances

pub returns-clause-cases : goal.returns-clause-cases
returns-clause-cases c = law.cases_suffice
