-- When a clause is typed.
use Rattle.std.specs.Prelude.{ℕ, ◌≡◌, ◌+◌, ◌<◌, List, [], ◌∷◌, length, slice_get, Some}
use Rattle.leo_q0.specs.Terms.{SimpleType}
use Rattle.leo_terms.specs.Tree.{Tree, variable, bound, symbol, app, lam, logic, absent, type_of}
use Rattle.leo_terms.specs.Contents.{Contents}
use Rattle.leo_clause.specs.declared.clause.Lit.{Lit}
use Rattle.leo_clause.specs.declared.clause.Clause.{Clause}
use Rattle.leo_clause.specs.Trees.{Literal, ClauseTree, clause_at}

-- each variable of a term is one of these, with its type, and its indices are below `depth`
abbrev pub IsOver : List SimpleType → ℕ → Tree → Type 0
IsOver variables depth (variable n a) = slice_get variables n ≡ Some a
IsOver variables depth (bound i a) = i < depth
IsOver variables depth (symbol s a) = Unit {0}
IsOver variables depth (app f x) = IsOver variables depth f × IsOver variables depth x
IsOver variables depth (lam a t) = IsOver variables (depth + 1) t
IsOver variables depth (logic c x y) = IsOver variables depth x × IsOver variables depth y
IsOver variables depth absent = Unit {0}

-- both sides are terms over these variables, of one type
pub record IsTypedLiteral (variables : List SimpleType) (l : Literal) : Type 0 where
  pub left_over : IsOver variables 0 l.left
  pub right_over : IsOver variables 0 l.right
  pub same_type : type_of l.left ≡ type_of l.right

abbrev pub AreTyped : List SimpleType → List Literal → Type 0
AreTyped variables [] = Unit {0}
AreTyped variables (l ∷ ls) = IsTypedLiteral variables l × AreTyped variables ls

-- each literal is typed over the clause's variables
abbrev pub IsTyped : ClauseTree → Type 0
IsTyped c = AreTyped c.variables c.literals

-- the numbers of a literal and of a clause are numbers of the bank
abbrev pub AreTypesOf : Contents → List ℕ → Type 0
AreTypesOf c [] = Unit {0}
AreTypesOf c (n ∷ ns) = (n < length c.types) × AreTypesOf c ns

abbrev pub AreLiteralsOf : Contents → List Lit → Type 0
AreLiteralsOf c [] = Unit {0}
AreLiteralsOf c (l ∷ ls) = (l.left < length c.terms) × (l.right < length c.terms) × AreLiteralsOf c ls

-- the numbers of a clause are numbers of the bank
pub record IsClauseOf (c : Contents) (k : Clause) : Type 0 where
  pub types_of : AreTypesOf c k.vars
  pub literals_of : AreLiteralsOf c k.lits

-- a typed clause of a bank
pub record IsTypedIn (c : Contents) (k : Clause) : Type 0 where
  pub of_bank : IsClauseOf c k
  pub typed : IsTyped (clause_at c k)
