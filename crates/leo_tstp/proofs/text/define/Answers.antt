use Rattle.std.proofs.Common.{arith}
use Rattle.leo_terms.proofs.CallerLemmas.{extends-itself, extends-trans}
use Rattle.leo_tstp.proofs.Built.{numbering-kept, symbols-push}
use Rattle.leo_tstp.proofs.text.define.Goals as goal

pub returns-in_err-place-clause-grows : goal.returns-in_err-place-clause-grows
returns-in_err-place-clause-grows c = extends-itself c.is_sound.ensures.sound

pub fresh-requires : goal.fresh-requires
fresh-requires c = c.in_ok-ty.ensures _ c.in_ok-number_types.ensures.numbering

pub returns-in_err-symbol-clause-grows : goal.returns-in_err-symbol-clause-grows
returns-in_err-symbol-clause-grows c = extends-trans c.number_types.ensures.grows c.fresh.ensures.grows

pub returns-in_err-push-clause-grows : goal.returns-in_err-push-clause-grows
returns-in_err-push-clause-grows c = extends-trans c.number_types.ensures.grows c.fresh.ensures.grows

pub returns-in_err-learn-clause-grows : goal.returns-in_err-learn-clause-grows
returns-in_err-learn-clause-grows c = extends-trans c.number_types.ensures.grows c.fresh.ensures.grows

pub returns-clause-numbering : goal.returns-clause-numbering
returns-clause-numbering c = let k = numbering-kept c.fresh.ensures.grows c.in_ok-number_types.ensures.numbering in record { bases = k.bases; types = k.types; symbols = rw c.in_ok-push.ensures.items (symbols-push c.fresh.new.self _ _ k.symbols c.in_ok-symbol.ensures.within) }

pub returns-clause-new : goal.returns-clause-new
returns-clause-new c = let a = c.in_ok-symbol.ensures.made.last in let more = c.number_types.ensures.grows.symbols_more in omega arith

pub returns-clause-grows : goal.returns-clause-grows
returns-clause-grows c = extends-trans c.number_types.ensures.grows c.fresh.ensures.grows
