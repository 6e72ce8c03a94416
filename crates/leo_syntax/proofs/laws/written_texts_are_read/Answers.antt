use Rattle.leo_syntax.proofs.WrittenFiles.{list_read_back}
use Rattle.leo_syntax.proofs.laws.written_texts_are_read.Goals as goal

pub returns : goal.returns
returns c = list_read_back c.spaced_words_are_tokens.ensures
