use Rattle.leo_terms.proofs.CallerLemmas.{extends-itself, extends-trans}
use Rattle.conclude_rows.proofs.Ready.{types-later}
use Rattle.conclude_rows.proofs.board.make_symbols.Goals as goal

pub loop-place-init : goal.loop-place-init
loop-place-init c = (extends-itself c.is_sound.ensures.sound, rw c.new-symbols.ensures (λ n s e. (let f : ⊥ = cc in absurd f)))

pub put_symbol-requires-clause-types : goal.put_symbol-requires-clause-types
put_symbol-requires-clause-types c = types-later c.loop-place.invariant.0 c.args.types.now c.requires

pub put_symbol-requires-clause-symbols : goal.put_symbol-requires-clause-symbols
put_symbol-requires-clause-symbols c = c.loop-place.invariant.1

pub returns-in_err-put_symbol-clause-grows : goal.returns-in_err-put_symbol-clause-grows
returns-in_err-put_symbol-clause-grows c = extends-trans c.loop-place.invariant.0 c.put_symbol.ensures.grows

pub loop-place-preserved : goal.loop-place-preserved
loop-place-preserved c = (extends-trans c.loop-place.invariant.0 c.put_symbol.ensures.grows, c.put_symbol.ensures.symbols)
