-- What stands ready for the rows.
use Rattle.std.specs.Prelude.{List, [], ◌∷◌}
use Rattle.leo_terms.specs.Contents.{Contents}
use Rattle.leo_clause.specs.Typed.{AreTypesOf}
use Rattle.leo_kernel.specs.Records.{AreStepsOf}
use Rattle.leo_para.specs.declared.member.Due.{Due}
use Rattle.para_rows.specs.declared.board.Board.{Board}
use Rattle.para_rows.specs.Stacks.{AreSymbols}

-- the numbers are numbers of the bank
pub record IsBoard (c : Contents) (b : Board) : Type 0 where
  pub types_of : AreTypesOf c b.types
  pub symbols_of : AreSymbols c b.symbols

-- the records are records of the bank
abbrev pub AreRecorded : Contents → List Due → Type 0
AreRecorded c [] = Unit {0}
AreRecorded c (d ∷ ds) = AreStepsOf c d.records × AreRecorded c ds
