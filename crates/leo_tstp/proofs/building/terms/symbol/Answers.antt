use Rattle.leo_terms.proofs.CallerLemmas.{extends-itself}
use Rattle.leo_tstp.proofs.Built.{built-symbol}
use Rattle.leo_tstp.proofs.building.terms.symbol.Goals as goal

pub returns-in_err-symbol-clause-grows : goal.returns-in_err-symbol-clause-grows
returns-in_err-symbol-clause-grows c = extends-itself c.is_sound.ensures.sound

pub make_sym-requires : goal.make_sym-requires
make_sym-requires c = c.in_ok-symbol.ensures c.args.bank.now c.requires

pub returns-clause-built : goal.returns-clause-built
returns-clause-built c = built-symbol c.make_sym.ensures.grows c.in_ok-t.ensures.made
