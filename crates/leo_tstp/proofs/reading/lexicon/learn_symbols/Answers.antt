use Rattle.std.proofs.Common.{arith, ◌<◌, length}
use Rattle.leo_terms.proofs.CallerLemmas.{extends-itself, extends-trans}
use Rattle.leo_tstp.proofs.Wording.{entry-at}
use Rattle.leo_tstp.proofs.Learned.{constants-in}
use Rattle.leo_tstp.proofs.reading.lexicon.learn_symbols.Goals.{in-Some+in_ok-learn_symbol, in_default}
use Rattle.leo_tstp.proofs.reading.lexicon.learn_symbols.Goals as goal

pub loop-place-init : goal.loop-place-init
loop-place-init c = record { known = c.requires.known; grows = extends-itself c.is_sound.ensures.sound }

pub learn_symbol-requires-clause-symbol : goal.learn_symbol-requires-clause-symbol
learn_symbol-requires-clause-symbol c = let w : c.in-Some.symbol.now < length c.args.bank.now.symbols = constants-in c.args.bank.now c.args.names.now.constants c.requires.names.constants _ _ (entry-at (λ w. w.items) _ _ _ _ _ c.constants-constants.ensures c.in-Some.ensures.entry) in let more = c.loop-place.invariant.grows.symbols_more in omega arith

pub returns-in_err-learn_symbol-clause-grows : goal.returns-in_err-learn_symbol-clause-grows
returns-in_err-learn_symbol-clause-grows c = extends-trans c.loop-place.invariant.grows c.learn_symbol.ensures.grows

pub loop-place-preserved : goal.loop-place-preserved
loop-place-preserved c = elim c.match-get_index.branch [
  | in-Some+in_ok-learn_symbol w ↦ record { known = rw (w.bank-is, w.known-is) w.in_ok-learn_symbol.ensures.known; grows = rw w.bank-is (extends-trans c.loop-place.invariant.grows w.learn_symbol.ensures.grows) }
  | in_default w ↦ record { known = rw (w.bank-is, w.known-is) c.loop-place.invariant.known; grows = rw w.bank-is c.loop-place.invariant.grows }
]
