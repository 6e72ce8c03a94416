use Rattle.leo_sound.proofs.LawProofs as law
use Rattle.leo_sound.proofs.laws.quantifier_laws.Goals as goal

pub returns-clause-all : goal.returns-clause-all
returns-clause-all c = law.all_gives

pub returns-clause-not_some : goal.returns-clause-not_some
returns-clause-not_some c = law.not_some_gives

pub returns-clause-some : goal.returns-clause-some
returns-clause-some c = law.some_gives

pub returns-clause-not_all : goal.returns-clause-not_all
returns-clause-not_all c = law.not_all_gives
