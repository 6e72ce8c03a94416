use Rattle.leo_terms.proofs.CallerLemmas.{extends-itself}
use Rattle.leo_tstp.proofs.reading.lexicon.start_of.Goals as goal

pub returns-in_err-lexicon-clause-grows : goal.returns-in_err-lexicon-clause-grows
returns-in_err-lexicon-clause-grows c = extends-itself c.is_sound.ensures.sound

pub returns-in_err-known-clause-grows : goal.returns-in_err-known-clause-grows
returns-in_err-known-clause-grows c = extends-itself c.is_sound.ensures.sound

pub returns-in_err-learn_types-clause-grows : goal.returns-in_err-learn_types-clause-grows
returns-in_err-learn_types-clause-grows c = extends-itself c.is_sound.ensures.sound

pub returns-clause-numbering : goal.returns-clause-numbering
returns-clause-numbering c = c.numbers_of.ensures _ c.in_ok-learn_symbols.ensures.known.bases c.in_ok-learn_symbols.ensures.known.symbols
