-- Literals and clauses over terms as trees.
use Rattle.std.specs.Prelude.{Bool, List, map}
use Rattle.leo_q0.specs.Terms.{SimpleType}
use Rattle.leo_terms.specs.Tree.{Tree}
use Rattle.leo_terms.specs.Contents.{Contents, type_at, tree_at}
use Rattle.leo_clause.specs.declared.clause.Lit.{Lit}
use Rattle.leo_clause.specs.declared.clause.Clause.{Clause}

-- an equation of two terms, or its negation
pub record Literal : Type 0 where
  pub positive : Bool
  pub left : Tree
  pub right : Tree

-- the types of the variables, by number, and the literals
pub record ClauseTree : Type 0 where
  pub variables : List SimpleType
  pub literals : List Literal

-- what a literal and a clause of a bank say
abbrev pub literal_at : Contents → Lit → Literal
literal_at c l = record { positive = l.pos; left = tree_at c l.left; right = tree_at c l.right }

abbrev pub clause_at : Contents → Clause → ClauseTree
clause_at c k = record { variables = map (type_at c) k.vars; literals = map (literal_at c) k.lits }
