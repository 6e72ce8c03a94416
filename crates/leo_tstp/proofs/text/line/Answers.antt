use Rattle.leo_terms.proofs.CallerLemmas.{extends-itself, extends-trans}
use Rattle.leo_tstp.proofs.Built.{numbering-kept}
use Rattle.leo_tstp.proofs.Recorded.{below-later}
use Rattle.leo_tstp.proofs.text.line.Goals as goal

pub returns-in_err-line-clause-grows : goal.returns-in_err-line-clause-grows
returns-in_err-line-clause-grows c = extends-itself c.is_sound.ensures.sound

pub record_of-requires-clause-symbol : goal.record_of-requires-clause-symbol
record_of-requires-clause-symbol c = below-later c.args.symbol _ _ c.number_types.ensures.grows.symbols_more c.requires.symbol

pub returns-in_err-record-clause-grows : goal.returns-in_err-record-clause-grows
returns-in_err-record-clause-grows c = extends-trans c.number_types.ensures.grows c.record_of.ensures.grows

pub returns-clause-numbering : goal.returns-clause-numbering
returns-clause-numbering c = numbering-kept c.record_of.ensures.grows c.in_ok-number_types.ensures.numbering

pub returns-clause-grows : goal.returns-clause-grows
returns-clause-grows c = extends-trans c.number_types.ensures.grows c.record_of.ensures.grows
