-- Terms of a bank that were built from those of a text. For private contracts.
use Rattle.std.specs.Prelude.{ℕ, ◌≡◌, ◌<◌, List, [], ◌∷◌, ◌++◌, length, map, slice_get, Some}
use Rattle.leo_q0.specs.Terms.{SimpleType}
use Rattle.leo_terms.specs.Tree.{Tree, variable, bound, symbol, app, lam, logic, absent}
use Rattle.leo_terms.specs.Contents.{Contents, type_at, tree_at}
use Rattle.leo_clause.specs.declared.clause.Lit.{Lit}
use Rattle.leo_clause.specs.declared.record.Rule.{Rule}
use Rattle.leo_clause.specs.declared.record.StepRecord.{StepRecord}
use Rattle.leo_clause.specs.Trees.{literal_at}
use Rattle.leo_clause.specs.Typed.{AreTypesOf, IsTypedIn, IsTypedLiteral}
use Rattle.leo_kernel.specs.Records.{AreTermsOfRule}
use Rattle.leo_tstp.specs.Records.{IsSymbolOfRule}
use Rattle.leo_tstp.specs.declared.building.numbers.Numbers.{Numbers}

-- a list from its last to its first
abbrev pub inside_out : {A : Type 0} → List A → List A
inside_out [] = []
inside_out (x ∷ xs) = inside_out xs ++ x ∷ []

-- each variable of a term is one of these, with its type, and so is each loose index, the innermost first
abbrev pub IsTermOver : List SimpleType → List SimpleType → Tree → Type 0
IsTermOver vs s (variable n a) = slice_get vs n ≡ Some a
IsTermOver vs s (bound i a) = slice_get s i ≡ Some a
IsTermOver vs s (symbol n a) = Unit {0}
IsTermOver vs s (app f x) = IsTermOver vs s f × IsTermOver vs s x
IsTermOver vs s (lam a t) = IsTermOver vs (a ∷ s) t
IsTermOver vs s (logic c x y) = IsTermOver vs s x × IsTermOver vs s y
IsTermOver vs s absent = Unit {0}

abbrev pub AreSymbolNumbers : Contents → List ℕ → Type 0
AreSymbolNumbers c [] = Unit {0}
AreSymbolNumbers c (s ∷ ss) = (s < length c.symbols) × AreSymbolNumbers c ss

-- the types and symbols of places stand in the bank
pub record IsNumbering (c : Contents) (n : Numbers) : Type 0 where
  pub bases : AreTypesOf c n.bases.items
  pub types : AreTypesOf c n.types.items
  pub symbols : AreSymbolNumbers c n.symbols.items

-- and so do the types of the variables around a place; the scope has the innermost last
pub record IsSite (c : Contents) (n : Numbers) (vars scope : List ℕ) : Type 0 where
  pub numbering : IsNumbering c n
  pub variables : AreTypesOf c vars
  pub scope_of : AreTypesOf c scope

-- a term that was built stands in the bank, over the variables around its place
pub record IsBuilt (c : Contents) (vars scope : List ℕ) (t : ℕ) : Type 0 where
  pub within : t < length c.terms
  pub variables : AreTypesOf c vars
  pub scope_of : AreTypesOf c scope
  pub over : IsTermOver (map (type_at c) vars) (inside_out (map (type_at c) scope)) (tree_at c t)

pub record AreBothBuilt (c : Contents) (vars scope : List ℕ) (t u : ℕ) : Type 0 where
  pub first : IsBuilt c vars scope t
  pub second : IsBuilt c vars scope u

-- a literal of two terms of one type that were built
pub record IsLiteralBuilt (c : Contents) (vars : List ℕ) (l : Lit) : Type 0 where
  pub left : l.left < length c.terms
  pub right : l.right < length c.terms
  pub typed : IsTypedLiteral (map (type_at c) vars) (literal_at c l)

abbrev pub AreLiteralsBuilt : Contents → List ℕ → List Lit → Type 0
AreLiteralsBuilt c vars [] = Unit {0}
AreLiteralsBuilt c vars (l ∷ ls) = IsLiteralBuilt c vars l × AreLiteralsBuilt c vars ls

-- the terms and the symbol of a rule stand in the bank
pub record IsRuleBuilt (c : Contents) (r : Rule) : Type 0 where
  pub terms_of : AreTermsOfRule c r
  pub symbol_of : IsSymbolOfRule c r

-- a record whose clause is typed, and whose rule was built
pub record IsStepBuilt (c : Contents) (s : StepRecord) : Type 0 where
  pub typed : IsTypedIn c s.clause
  pub rule : IsRuleBuilt c s.rule

abbrev pub AreStepsRead : Contents → List StepRecord → Type 0
AreStepsRead c steps = (n : ℕ) (s : StepRecord) → slice_get steps n ≡ Some s → IsStepBuilt c s
