-- On which lines a line rests.
use Rattle.std.specs.Prelude.{ℕ, ◌≡◌, ◌<◌, List, [], ◌∷◌, slice_get, Option, Some, None, Contains}
use Rattle.leo_kernel.specs.Symbols.{LiteralsLackSymbol, RuleLacksSymbol}
use Rattle.leo_kernel.specs.Steps.{StepRule, assume, convert, inst, para, arrange, drop_literal, take_apart, bool_ext, func_ext, decompose, reflexivity, choose, factor, abbreviate, Line}

-- the line that is named, if one is
abbrev pub if_named : Option ℕ → List ℕ
if_named None = []
if_named (Some a) = a ∷ []

-- the lines that a rule names: its parents, and the line of an abbreviation
abbrev pub named : StepRule → List ℕ
named (assume h) = []
named (convert p) = p ∷ []
named (inst p sigma) = p ∷ []
named (para p i s q j r path) = p ∷ q ∷ []
named (arrange p) = p ∷ []
named (drop_literal p i) = p ∷ []
named (take_apart p i kind a) = p ∷ if_named a
named (bool_ext p i half) = p ∷ []
named (func_ext p i a) = p ∷ if_named a
named (decompose p i) = p ∷ []
named reflexivity = []
named choose = []
named (factor p i j) = p ∷ []
named (abbreviate s) = []

-- neither the clause nor the rule has the symbol
abbrev pub LineLacksSymbol : ℕ → Line → Type 0
LineLacksSymbol s l = LiteralsLackSymbol s l.clause.literals × RuleLacksSymbol s l.rule

-- a line rests on the lines that its rule names, and on the line that abbreviates by a symbol which it has
pub data RestsDirectly (lines : List Line) (n m : ℕ) : Type 0 where
  on_named : (l : Line) → slice_get lines n ≡ Some l → Contains (named l.rule) m → RestsDirectly lines n m
  on_symbol : (l k : Line) (s : ℕ) → slice_get lines n ≡ Some l → slice_get lines m ≡ Some k → k.rule ≡ abbreviate s → (LineLacksSymbol s l → ⊥) → RestsDirectly lines n m

-- and on what these rest on
pub data RestsOn (lines : List Line) (n : ℕ) : ℕ → Type 0 where
  itself : RestsOn lines n n
  further : {m k : ℕ} → RestsOn lines n m → RestsDirectly lines m k → RestsOn lines n k

-- without literals
abbrev pub IsEmptyLine : Line → Type 0
IsEmptyLine l = l.clause.literals ≡ []

-- the first line without literals
pub record IsFirstEmpty (lines : List Line) (n : ℕ) : Type 0 where
  pub line : Line
  pub line_is : slice_get lines n ≡ Some line
  pub empty : IsEmptyLine line
  pub first : (m : ℕ) (l : Line) → m < n → slice_get lines m ≡ Some l → IsEmptyLine l → ⊥
