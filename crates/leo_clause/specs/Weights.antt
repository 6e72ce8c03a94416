-- How large clauses are.
use Rattle.std.specs.Prelude.{ℕ, ◌+◌, List, [], ◌∷◌}
use Rattle.leo_terms.specs.Facts.{tree_weight}
use Rattle.leo_clause.specs.Trees.{Literal, ClauseTree}

abbrev pub literals_weight : List Literal → ℕ
literals_weight [] = 0
literals_weight (l ∷ ls) = (tree_weight l.left + tree_weight l.right) + literals_weight ls

abbrev pub clause_weight : ClauseTree → ℕ
clause_weight c = literals_weight c.literals
