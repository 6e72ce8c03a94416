-- What stands ready for the rows, and what is told of a split.
use Rattle.std.specs.Prelude.{ℕ, ◌≡◌, List, slice_get, Some}
use Rattle.leo_terms.specs.Contents.{Contents}
use Rattle.leo_terms.specs.NormalForm.{normal_form}
use Rattle.leo_clause.specs.Choices.{AreChoicesOf}
use Rattle.leo_clause.specs.Trees.{Literal}
use Rattle.leo_clause.specs.Typed.{AreTypesOf, IsClauseOf}
use Rattle.leo_kernel.specs.Records.{AreStepsOf}
use Rattle.leo_clausify.specs.declared.leaves.Leaf.{Leaf}
use Rattle.leo_clausify.specs.declared.leaves.Split.{Split}
use Rattle.leo_clausify.specs.declared.leaves.Split.TheVariants.{Clauses, Room}
use Rattle.clausify_rows.specs.declared.board.Board.{Board}
use Rattle.clausify_rows.specs.declared.asking.Answer.{Answer}
use Rattle.clausify_rows.specs.Stacks.{AreSymbols}

-- the numbers are numbers of the bank
pub record IsBoard (c : Contents) (b : Board) : Type 0 where
  pub types_of : AreTypesOf c b.types
  pub symbols_of : AreSymbols c b.symbols

-- both sides are their own normal forms
abbrev pub IsNormalLiteral : Literal → Type 0
IsNormalLiteral l = (normal_form l.left ≡ l.left) × (normal_form l.right ≡ l.right)

-- the clause and the records of a leaf are those of the bank
pub record IsLeaf (c : Contents) (l : Leaf) : Type 0 where
  pub clause_of : IsClauseOf c l.clause
  pub records_of : AreStepsOf c l.records

abbrev pub AreLeaves : Contents → List Leaf → Type 0
AreLeaves c leaves = (n : ℕ) (l : Leaf) → slice_get leaves n ≡ Some l → IsLeaf c l

abbrev pub IsSplitOf : Contents → Split → Type 0
IsSplitOf c (Clauses leaves) = AreLeaves c leaves
IsSplitOf c Room = Unit {0}

pub record IsAnswer (c : Contents) (a : Answer) : Type 0 where
  pub split_of : IsSplitOf c a.split
  pub choices_of : AreChoicesOf c a.choices.items
