use Rattle.leo_tstp.proofs.CutDerivations.{printed-tokens}
use Rattle.leo_tstp.proofs.laws.printed_texts_have_words.Goals as goal

pub returns : goal.returns
returns c = printed-tokens
