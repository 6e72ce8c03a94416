-- The symbols of terms, of clauses and of lines, in the order in which they come.
use Rattle.std.specs.Prelude.{ℕ, ◌≡◌, true, nat_eq, List, [], ◌∷◌, ◌++◌, slice_get, Some}
use Rattle.std.specs.List.{list_any}
use Rattle.leo_terms.specs.Tree.{Tree, variable, bound, symbol, app, lam, logic, absent}
use Rattle.leo_terms.specs.Contents.{Contents, tree_at}
use Rattle.leo_clause.specs.Trees.{Literal}
use Rattle.leo_clause.specs.Renaming.{AreSeen}
use Rattle.leo_kernel.specs.Steps.{StepRule, inst, Line}

abbrev pub symbols_of : Tree → List ℕ
symbols_of (variable n a) = []
symbols_of (bound i a) = []
symbols_of (symbol s a) = s ∷ []
symbols_of (app f x) = symbols_of f ++ symbols_of x
symbols_of (lam a t) = symbols_of t
symbols_of (logic c x y) = symbols_of x ++ symbols_of y
symbols_of absent = []

abbrev pub symbols_in : List Tree → List ℕ
symbols_in [] = []
symbols_in (t ∷ ts) = symbols_of t ++ symbols_in ts

abbrev pub symbols_in_literals : List Literal → List ℕ
symbols_in_literals [] = []
symbols_in_literals (l ∷ ls) = (symbols_of l.left ++ symbols_of l.right) ++ symbols_in_literals ls

abbrev pub symbols_in_rule : StepRule → List ℕ
symbols_in_rule (inst p sigma) = symbols_in sigma
symbols_in_rule _ = []

abbrev pub symbols_in_line : Line → List ℕ
symbols_in_line l = symbols_in_literals l.clause.literals ++ symbols_in_rule l.rule

-- the symbol is one of these
abbrev pub IsOneOf : ℕ → List ℕ → Type 0
IsOneOf s symbols = list_any (nat_eq s) symbols ≡ true

-- the symbols of these terms of a bank are among these
abbrev pub AreCollected : Contents → List ℕ → List ℕ → Type 0
AreCollected c terms seen = (i t : ℕ) → slice_get terms i ≡ Some t → AreSeen seen (symbols_of (tree_at c t))
