-- What stands ready for the rows, and the pairs of literals.
use Rattle.std.specs.Prelude.{ℕ, List, [], ◌∷◌}
use Rattle.leo_terms.specs.Contents.{Contents, AreTerms}
use Rattle.leo_clause.specs.declared.clause.Lit.{Lit}
use Rattle.leo_clause.specs.Typed.{AreTypesOf}
use Rattle.leo_unify.specs.declared.sigma.Sigma.{Sigma}
use Rattle.unify_rows.specs.declared.board.Board.{Board}
use Rattle.unify_rows.specs.Stacks.{AreSymbols}

-- the numbers are numbers of the bank
pub record IsBoard (c : Contents) (b : Board) : Type 0 where
  pub types_of : AreTypesOf c b.types
  pub symbols_of : AreSymbols c b.symbols

-- the sides of a literal
abbrev pub sides : Lit → ℕ × ℕ
sides l = (l.left, l.right)

-- the terms of solutions are terms of the bank
abbrev pub HaveTerms : Contents → List Sigma → Type 0
HaveTerms c [] = Unit {0}
HaveTerms c (s ∷ ss) = AreTerms c s.terms × HaveTerms c ss
