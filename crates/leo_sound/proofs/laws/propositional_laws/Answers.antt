use Rattle.leo_sound.proofs.LawProofs as law
use Rattle.leo_sound.proofs.laws.propositional_laws.Goals as goal

pub returns-clause-tautologies : goal.returns-clause-tautologies
returns-clause-tautologies c = law.tautologies

pub returns-clause-ponens : goal.returns-clause-ponens
returns-clause-ponens c = law.ponens

pub returns-clause-literal : goal.returns-clause-literal
returns-clause-literal c = law.weaker
