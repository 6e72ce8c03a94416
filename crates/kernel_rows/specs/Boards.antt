-- A derivation whose numbers are numbers of its bank.
use Rattle.leo_terms.specs.Contents.{Contents, AreTerms}
use Rattle.leo_clause.specs.Typed.{AreTypesOf}
use Rattle.leo_kernel.specs.Records.{AreStepsOf}
use Rattle.kernel_rows.specs.declared.board.Board.{Board}
use Rattle.kernel_rows.specs.Stacks.{AreSymbols}

pub record IsBoard (c : Contents) (b : Board) : Type 0 where
  pub types_of : AreTypesOf c b.types
  pub symbols_of : AreSymbols c b.symbols
  pub hypotheses : AreTerms c b.hyps
  pub lines_of : AreStepsOf c b.lines.items
