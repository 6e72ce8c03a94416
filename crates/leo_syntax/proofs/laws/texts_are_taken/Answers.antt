use Rattle.leo_syntax.proofs.Files.{file_taken}
use Rattle.leo_syntax.proofs.laws.texts_are_taken.Goals as goal

pub returns : goal.returns
returns c = file_taken
