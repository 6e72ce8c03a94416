use Rattle.leo_terms.proofs.CallerLemmas.{extends-itself, extends-trans}
use Rattle.leo_tstp.proofs.text.next_line.Goals as goal

pub returns-in_err-new-clause-grows : goal.returns-in_err-new-clause-grows
returns-in_err-new-clause-grows c = extends-itself c.is_sound.ensures.sound

pub returns-in_err-record-clause-grows : goal.returns-in_err-record-clause-grows
returns-in_err-record-clause-grows c = extends-trans c.define.ensures.grows c.line.ensures.grows

pub returns-in_ok-record-clause-grows : goal.returns-in_ok-record-clause-grows
returns-in_ok-record-clause-grows c = extends-trans c.define.ensures.grows c.line.ensures.grows
