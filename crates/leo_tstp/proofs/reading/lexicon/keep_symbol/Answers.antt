use Rattle.leo_tstp.proofs.Built.{symbols-push}
use Rattle.leo_tstp.proofs.reading.lexicon.keep_symbol.Goals as goal

pub returns : goal.returns
returns c = λ d l k. record { bases = k.bases; symbols = rw c.in_ok-push-2.ensures.items (symbols-push d _ _ k.symbols l) }
