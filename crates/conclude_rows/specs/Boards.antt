-- What stands ready for the rows, which records are those of a bank, and which numbers are those of constraints.
use Rattle.std.specs.Prelude.{ℕ, ◌≡◌, ◌<◌, false, List, [], ◌∷◌, length, slice_get, Some}
use Rattle.leo_terms.specs.Contents.{Contents}
use Rattle.leo_clause.specs.declared.clause.Lit.{Lit}
use Rattle.leo_clause.specs.Typed.{AreTypesOf}
use Rattle.leo_kernel.specs.Records.{AreStepsOf}
use Rattle.leo_conclude.specs.declared.concluding.Conclusion.{Conclusion}
use Rattle.conclude_rows.specs.declared.board.Board.{Board}
use Rattle.conclude_rows.specs.Stacks.{AreSymbols}

-- the numbers are numbers of the bank
pub record IsBoard (c : Contents) (b : Board) : Type 0 where
  pub types_of : AreTypesOf c b.types
  pub symbols_of : AreSymbols c b.symbols

-- the records are records of the bank
abbrev pub AreRecorded : Contents → List Conclusion → Type 0
AreRecorded c [] = Unit {0}
AreRecorded c (r ∷ rs) = AreStepsOf c r.records × AreRecorded c rs

-- a negative literal has this number
pub record IsNegative (lits : List Lit) (n : ℕ) : Type 0 where
  pub within : n < length lits
  pub negative : (l : Lit) → slice_get lits n ≡ Some l → l.pos ≡ false

-- so has one each of these
abbrev pub AreNegative : List Lit → List ℕ → Type 0
AreNegative lits [] = Unit {0}
AreNegative lits (n ∷ ns) = IsNegative lits n × AreNegative lits ns
