use Rattle.std.proofs.Common.{length}
use Rattle.leo_terms.proofs.CallerLemmas.{extends-itself}
use Rattle.conclude_rows.proofs.Ready.{all-end, symbols-later, type-within}
use Rattle.conclude_rows.proofs.board.put_symbol.Goals as goal

pub returns-then-place-types-clause-grows : goal.returns-then-place-types-clause-grows
returns-then-place-types-clause-grows c = extends-itself c.is_sound.ensures.sound

pub fresh-requires : goal.fresh-requires
fresh-requires c = type-within c.args.bank.now c.args.types.now c.requires.types c.args.place c.index-types-place.result c.if-place-types.false c.index-types-place.is

pub returns-clause-symbols : goal.returns-clause-symbols
returns-clause-symbols c = rw c.in_ok-push.ensures.ok (all-end (length c.fresh.new.self.symbols) c.args.symbols.now c.in_ok-symbol.symbol (symbols-later c.fresh.ensures.grows c.args.symbols.now c.requires.symbols) c.in_ok-symbol.ensures.within)
