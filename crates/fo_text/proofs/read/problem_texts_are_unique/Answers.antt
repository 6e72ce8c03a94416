use Rattle.fo_text.proofs.ProblemReading.{problems_same}
use Rattle.fo_text.proofs.read.problem_texts_are_unique.Goals as goal

pub returns : goal.returns
returns c = problems_same
