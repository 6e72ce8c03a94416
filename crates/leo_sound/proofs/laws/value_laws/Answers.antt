use Rattle.leo_sound.proofs.LawProofs as law
use Rattle.leo_sound.proofs.laws.value_laws.Goals as goal

pub returns-clause-arguments : goal.returns-clause-arguments
returns-clause-arguments c = law.arguments

pub returns-clause-functions : goal.returns-clause-functions
returns-clause-functions c = law.equal_functions

pub returns-clause-different : goal.returns-clause-different
returns-clause-different c = law.different_functions
