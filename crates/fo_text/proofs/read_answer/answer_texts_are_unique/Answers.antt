use Rattle.fo_text.proofs.AnswerReading.{answers_unique}
use Rattle.fo_text.proofs.read_answer.answer_texts_are_unique.Goals as goal

pub returns : goal.returns
returns c = answers_unique
