-- The nodes of terms, one after the other: what each may be, over variables with their sorts and over
-- symbols.
use Rattle.std.specs.Prelude.{ℕ, ◌≡◌, ◌+◌, ◌↔◌, Bool, true, List, [], ◌∷◌, ◌++◌, length, map, Option, Some, None, slice_get, ◌==◌, if◌then◌else◌}
use Rattle.std.specs.List.{AllByRecursion}
use Rattle.fo_terms.specs.declared.term.FoNode.{FoNode}
use Rattle.fo_terms.specs.declared.term.FoNode.TheVariants.{Var, Sym}
use Rattle.fo_terms.specs.Terms.{Term}
use Rattle.fo_text.specs.declared.problem.FoSym.{FoSym}
use Rattle.fo_text.specs.Words.{space}
use Rattle.fo_text.specs.Problems.{HasSort}
use Rattle.fo_text.specs.Spellings.{node_word}

-- the node begins a term of the sort, whose arguments have these sorts
abbrev pub Gives : List ℕ → List FoSym → FoNode → ℕ → List ℕ → Type 0
Gives vars syms (Var v) s args = (slice_get vars v ≡ Some s) × (args ≡ [])
Gives vars syms (Sym f k) s args = (y : FoSym) × (slice_get syms f ≡ Some y) × (y.result ≡ s) × (y.args ≡ args) × (length args ≡ k)

-- the sort that is wanted, where one is
abbrev pub Suits : Option ℕ → ℕ → Type 0
Suits None s = Unit {0}
Suits (Some w) s = w ≡ s

-- the node begins a term that is wanted
pub record Begins (vars : List ℕ) (syms : List FoSym) (want : Option ℕ) (n : FoNode) (s : ℕ) (args : List ℕ) : Type 0 where
  pub suits : Suits want s
  pub gives : Gives vars syms n s args

-- once the nodes stand there, these terms are wanted in place of those
abbrev pub Takes : List ℕ → List FoSym → List (Option ℕ) → List FoNode → List (Option ℕ) → Type 0
Takes vars syms wants [] left = wants ≡ left
Takes vars syms [] (n ∷ ns) left = ⊥
Takes vars syms (w ∷ wants) (n ∷ ns) left = (s : ℕ) × (args : List ℕ) × Begins vars syms w n s args × Takes vars syms (map Some args ++ wants) ns left

-- some term has the sort
abbrev pub Inhabited : List ℕ → List FoSym → ℕ → Type 0
Inhabited vars syms s = (t : Term) × HasSort vars syms t s

-- some term is wanted
abbrev pub CanBegin : List ℕ → List FoSym → Option ℕ → Type 0
CanBegin vars syms w = (s : ℕ) × Suits w s × Inhabited vars syms s

-- a symbol is marked
abbrev pub IsUsable : List Bool → FoNode → Type 0
IsUsable usable (Var v) = Unit {0}
IsUsable usable (Sym f k) = slice_get usable f ≡ Some true

-- a symbol is marked exactly where a term begins with it
abbrev pub AreMarks : List ℕ → List FoSym → List Bool → Type 0
AreMarks vars syms usable = (f : ℕ) (y : FoSym) → slice_get syms f ≡ Some y → (slice_get usable f ≡ Some true) ↔ AllByRecursion (Inhabited vars syms) y.args

-- the node is wanted, and is no symbol without a mark
pub record IsCandidate (vars : List ℕ) (syms : List FoSym) (usable : List Bool) (want : Option ℕ) (n : FoNode) : Type 0 where
  pub sort : ℕ
  pub args : List ℕ
  pub begins : Begins vars syms want n sort args
  pub marked : IsUsable usable n

-- the byte behind a node, where the one behind its term is given
abbrev pub node_end : ℕ → FoNode → ℕ
node_end after (Var v) = after
node_end after (Sym f k) = if k == 0 then after else space

abbrev pub spaced_node : ℕ → FoNode → List ℕ
spaced_node after n = space ∷ (node_word n ++ node_end after n ∷ [])

-- a node stands at a number, the variables before the symbols
abbrev pub StandsAt : List ℕ → ℕ → FoNode → Type 0
StandsAt vars at (Var v) = at ≡ v
StandsAt vars at (Sym f k) = at ≡ length vars + f
