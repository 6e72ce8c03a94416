use Rattle.fo_prove.proofs.OneAnswer.{answers-same, wholes-same}
use Rattle.fo_prove.proofs.laws.answer_laws.Goals as goal

pub returns-clause-unique : goal.returns-clause-unique
returns-clause-unique c = answers-same c.turn_laws.ensures

pub returns-clause-whole : goal.returns-clause-whole
returns-clause-whole c = wholes-same c.turn_laws.ensures
