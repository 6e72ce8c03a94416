use Rattle.leo_terms.proofs.CallerLemmas.{extends-trans}
use Rattle.unify_rows.proofs.Ready.{types-later}
use Rattle.unify_rows.proofs.board.make_board.Goals as goal

pub returns-in_err-symbols-clause-grows : goal.returns-in_err-symbols-clause-grows
returns-in_err-symbols-clause-grows c = extends-trans (extends-trans c.make_types.ensures.grows c.put_functions.ensures.grows) c.make_symbols.ensures.grows

pub returns-clause-grows : goal.returns-clause-grows
returns-clause-grows c = extends-trans (extends-trans c.make_types.ensures.grows c.put_functions.ensures.grows) c.make_symbols.ensures.grows

pub returns-clause-board : goal.returns-clause-board
returns-clause-board c = record {
  types_of = types-later c.make_symbols.ensures.grows _ c.put_functions.ensures.types;
  symbols_of = c.in_ok-symbols.ensures.symbols;
}

pub returns-in_err-put_functions-clause-grows : goal.returns-in_err-put_functions-clause-grows
returns-in_err-put_functions-clause-grows c = extends-trans c.make_types.ensures.grows c.put_functions.ensures.grows
