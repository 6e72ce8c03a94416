use Rattle.leo_tstp.proofs.Built.{types-push}
use Rattle.leo_tstp.proofs.reading.lexicon.base_place.Goals as goal

pub returns : goal.returns
returns c = λ d l k. record { bases = rw c.in_ok-push.ensures.items (types-push d _ _ k.bases l); symbols = k.symbols }
