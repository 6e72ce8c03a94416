use Rattle.leo_terms.proofs.CallerLemmas.{extends-itself}
use Rattle.leo_tstp.proofs.building.records.rule_of.Goals as goal

pub returns-in_err-want_none-in-Plain-clause-grows : goal.returns-in_err-want_none-in-Plain-clause-grows
returns-in_err-want_none-in-Plain-clause-grows c = extends-itself c.is_sound.ensures.sound

pub returns-in_err-want_none-in-Inst-clause-grows : goal.returns-in_err-want_none-in-Inst-clause-grows
returns-in_err-want_none-in-Inst-clause-grows c = extends-itself c.is_sound.ensures.sound

pub returns-in_err-symbol-in-Abbreviate-clause-grows : goal.returns-in_err-symbol-in-Abbreviate-clause-grows
returns-in_err-symbol-in-Abbreviate-clause-grows c = extends-itself c.is_sound.ensures.sound

pub returns-in_ok-want_none-in-Plain-clause-grows : goal.returns-in_ok-want_none-in-Plain-clause-grows
returns-in_ok-want_none-in-Plain-clause-grows c = extends-itself c.is_sound.ensures.sound

pub returns-in_ok-symbol-in-Abbreviate-clause-grows : goal.returns-in_ok-symbol-in-Abbreviate-clause-grows
returns-in_ok-symbol-in-Abbreviate-clause-grows c = extends-itself c.is_sound.ensures.sound
