use Rattle.leo_sound.proofs.LawProofs as law
use Rattle.leo_sound.proofs.laws.truth_laws.Goals as goal

pub returns-clause-holds : goal.returns-clause-holds
returns-clause-holds c = law.true_holds

pub returns-clause-equals : goal.returns-clause-equals
returns-clause-equals c = law.equals_truth

pub returns-clause-back : goal.returns-clause-back
returns-clause-back c = law.truth_equals
