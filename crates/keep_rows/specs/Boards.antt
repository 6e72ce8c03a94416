-- What stands ready for the rows, and which clauses are typed.
use Rattle.std.specs.Prelude.{List, [], ◌∷◌}
use Rattle.leo_terms.specs.Contents.{Contents}
use Rattle.leo_clause.specs.declared.clause.Clause.{Clause}
use Rattle.leo_clause.specs.Typed.{AreTypesOf, IsClauseOf}
use Rattle.keep_rows.specs.declared.board.Board.{Board}
use Rattle.keep_rows.specs.Stacks.{AreSymbols}

-- the numbers are numbers of the bank
pub record IsBoard (c : Contents) (b : Board) : Type 0 where
  pub types_of : AreTypesOf c b.types
  pub symbols_of : AreSymbols c b.symbols

abbrev pub AreClausesOf : Contents → List Clause → Type 0
AreClausesOf c [] = Unit {0}
AreClausesOf c (k ∷ ks) = IsClauseOf c k × AreClausesOf c ks
