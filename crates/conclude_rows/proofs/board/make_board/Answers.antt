use Rattle.leo_terms.proofs.CallerLemmas.{extends-trans}
use Rattle.conclude_rows.proofs.Ready.{types-later}
use Rattle.conclude_rows.proofs.board.make_board.Goals as goal

pub returns-in_err-symbols-clause-grows : goal.returns-in_err-symbols-clause-grows
returns-in_err-symbols-clause-grows c = extends-trans c.make_types.ensures.grows c.make_symbols.ensures.grows

pub returns-clause-grows : goal.returns-clause-grows
returns-clause-grows c = extends-trans c.make_types.ensures.grows c.make_symbols.ensures.grows

pub returns-clause-board : goal.returns-clause-board
returns-clause-board c = record {
  types_of = types-later c.make_symbols.ensures.grows c.in_ok-types.types c.in_ok-types.ensures.types;
  symbols_of = c.in_ok-symbols.ensures.symbols;
}
