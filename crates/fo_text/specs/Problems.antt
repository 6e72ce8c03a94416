-- Which problems have a text: each number that is named exists, and sorts fit.
use Rattle.std.specs.Prelude.{ℕ, ◌≡◌, ◌<◌, ◌≤◌, List, [], ◌∷◌, length, Some, slice_get}
use Rattle.std.specs.List.{AllByRecursion}
use Rattle.fo_terms.specs.Terms.{Term, Terms, variable, symbol, none, more}
use Rattle.fo_text.specs.declared.problem.FoSym.{FoSym}
use Rattle.fo_text.specs.declared.problem.FoLit.{FoLit}
use Rattle.fo_text.specs.declared.problem.FoClause.{FoClause}
use Rattle.fo_text.specs.declared.problem.FoProblem.{FoProblem}
use Rattle.fo_text.specs.Words.{most_number}

-- the term has the sort, over variables with their sorts and over symbols
abbrev mutual
  pub HasSort : List ℕ → List FoSym → Term → ℕ → Type 0
  HasSort vars syms (variable v) s = slice_get vars v ≡ Some s
  HasSort vars syms (symbol f ts) s = (y : FoSym) × (slice_get syms f ≡ Some y) × (y.result ≡ s) × HaveSorts vars syms ts y.args

  pub HaveSorts : List ℕ → List FoSym → Terms → List ℕ → Type 0
  HaveSorts vars syms none [] = Unit {0}
  HaveSorts vars syms none (s ∷ ss) = ⊥
  HaveSorts vars syms (more t ts) [] = ⊥
  HaveSorts vars syms (more t ts) (s ∷ ss) = HasSort vars syms t s × HaveSorts vars syms ts ss

abbrev pub AreSorts : ℕ → List ℕ → Type 0
AreSorts sorts ss = AllByRecursion (λ s. s < sorts) ss

pub record IsSymbol (sorts : ℕ) (y : FoSym) : Type 0 where
  pub result : y.result < sorts
  pub args : AreSorts sorts y.args

-- the two terms have one sort
abbrev pub IsLiteral : List ℕ → List FoSym → FoLit → Type 0
IsLiteral vars syms l = (s : ℕ) × HasSort vars syms l.left s × HasSort vars syms l.right s

pub record IsClause (sorts : ℕ) (syms : List FoSym) (c : FoClause) : Type 0 where
  pub vars_count : length c.vars ≤ most_number
  pub vars : AreSorts sorts c.vars
  pub lits_count : length c.lits ≤ most_number
  pub lits : AllByRecursion (IsLiteral c.vars syms) c.lits

pub record IsProblem (p : FoProblem) : Type 0 where
  pub turns : (1 ≤ p.turns) × (p.turns ≤ most_number)
  pub weight : (1 ≤ p.weight) × (p.weight ≤ most_number)
  pub sorts : p.sorts ≤ most_number
  pub syms_count : length p.syms ≤ most_number
  pub syms : AllByRecursion (IsSymbol p.sorts) p.syms
  pub clauses_count : length p.clauses ≤ most_number
  pub clauses : AllByRecursion (IsClause p.sorts p.syms) p.clauses

pub record AreSyms (sorts : ℕ) (ys : List FoSym) : Type 0 where
  pub count : length ys ≤ most_number
  pub each : AllByRecursion (IsSymbol sorts) ys

pub record AreClauses (sorts : ℕ) (syms : List FoSym) (cs : List FoClause) : Type 0 where
  pub count : length cs ≤ most_number
  pub each : AllByRecursion (IsClause sorts syms) cs
