use Rattle.leo_tstp.proofs.reading.lexicon.numbers_of.Goals as goal

pub returns : goal.returns
returns c = λ d h k. record { bases = h; types = rw c.new.ensures.items tt; symbols = k }
