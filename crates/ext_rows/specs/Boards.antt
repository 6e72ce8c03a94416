-- What stands ready for the rows.
use Rattle.leo_terms.specs.Contents.{Contents}
use Rattle.leo_clause.specs.Typed.{AreTypesOf}
use Rattle.ext_rows.specs.declared.board.Board.{Board}
use Rattle.ext_rows.specs.Stacks.{AreSymbols}

-- the numbers are numbers of the bank
pub record IsBoard (c : Contents) (b : Board) : Type 0 where
  pub types_of : AreTypesOf c b.types
  pub symbols_of : AreSymbols c b.symbols
