-- What a rule asks of symbols: new ones, and those for chosen terms.
use Rattle.std.specs.Prelude.{ℕ, ◌≡◌, Bool, true, false, List, [], ◌∷◌, slice_get, Option, Some, None, IsSomeAnd}
use Rattle.leo_q0.specs.Terms.{SimpleType}
use Rattle.leo_terms.specs.Tree.{Tree, variable, bound, symbol, app, lam, logic, absent}
use Rattle.leo_clause.specs.declared.record.LogicKind.{LogicKind}
use Rattle.leo_clause.specs.declared.record.LogicKind.TheVariants as kind
use Rattle.leo_clause.specs.Trees.{Literal, ClauseTree}
use Rattle.leo_kernel.specs.Shapes.{equal}
use Rattle.leo_kernel.specs.Choosing.{Claim, Claims, difference_in, SpeaksOf, applied_to, AreVariablesOf, Fits, MayFit}
use Rattle.leo_kernel.specs.Steps.{StepRule, assume, convert, inst, para, arrange, drop_literal, take_apart, bool_ext, func_ext, decompose, reflexivity, choose, factor, abbreviate, Line, literal_of}

-- new symbols

abbrev pub LacksSymbol : ℕ → Tree → Type 0
LacksSymbol s (variable n a) = Unit {0}
LacksSymbol s (bound i a) = Unit {0}
LacksSymbol s (symbol n a) = n ≡ s → ⊥
LacksSymbol s (app f x) = LacksSymbol s f × LacksSymbol s x
LacksSymbol s (lam a t) = LacksSymbol s t
LacksSymbol s (logic c x y) = LacksSymbol s x × LacksSymbol s y
LacksSymbol s absent = Unit {0}

abbrev pub LackSymbol : ℕ → List Tree → Type 0
LackSymbol s [] = Unit {0}
LackSymbol s (t ∷ ts) = LacksSymbol s t × LackSymbol s ts

abbrev pub LiteralsLackSymbol : ℕ → List Literal → Type 0
LiteralsLackSymbol s [] = Unit {0}
LiteralsLackSymbol s (l ∷ ls) = LacksSymbol s l.left × LacksSymbol s l.right × LiteralsLackSymbol s ls

-- the terms of a rule lack it
abbrev pub RuleLacksSymbol : ℕ → StepRule → Type 0
RuleLacksSymbol s (inst p sigma) = LackSymbol s sigma
RuleLacksSymbol s (assume h) = Unit {0}
RuleLacksSymbol s (convert p) = Unit {0}
RuleLacksSymbol s (para p i side q j place_side path) = Unit {0}
RuleLacksSymbol s (arrange p) = Unit {0}
RuleLacksSymbol s (drop_literal p i) = Unit {0}
RuleLacksSymbol s (take_apart p i k a) = Unit {0}
RuleLacksSymbol s (bool_ext p i half) = Unit {0}
RuleLacksSymbol s (func_ext p i a) = Unit {0}
RuleLacksSymbol s (decompose p i) = Unit {0}
RuleLacksSymbol s reflexivity = Unit {0}
RuleLacksSymbol s choose = Unit {0}
RuleLacksSymbol s (factor p i j) = Unit {0}
RuleLacksSymbol s (abbreviate n) = Unit {0}

abbrev pub LinesLackSymbol : ℕ → List Line → Type 0
LinesLackSymbol s [] = Unit {0}
LinesLackSymbol s (l ∷ ls) = LiteralsLackSymbol s l.clause.literals × RuleLacksSymbol s l.rule × LinesLackSymbol s ls

abbrev pub HasNoVariable : Tree → Type 0
HasNoVariable (variable n a) = ⊥
HasNoVariable (bound i a) = Unit {0}
HasNoVariable (symbol n a) = Unit {0}
HasNoVariable (app f x) = HasNoVariable f × HasNoVariable x
HasNoVariable (lam a t) = HasNoVariable t
HasNoVariable (logic c x y) = HasNoVariable x × HasNoVariable y
HasNoVariable absent = Unit {0}

-- no hypothesis and no earlier line has s; and where the clause is `s = t`, t has no variable and not s
pub record IsNewSymbol (hypotheses : List Tree) (lines : List Line) (s : ℕ) (literals : List Literal) : Type 0 where
  pub hypotheses_lack : LackSymbol s hypotheses
  pub lines_lack : LinesLackSymbol s lines
  pub no_variable : (a : SimpleType) (t : Tree) → literals ≡ equal (symbol s a) t ∷ [] → HasNoVariable t
  pub term_lacks : (a : SimpleType) (t : Tree) → literals ≡ equal (symbol s a) t ∷ [] → LacksSymbol s t

-- symbols for chosen terms

-- the literal `s = t` of a line that abbreviates t by s
abbrev pub only_literal : List Literal → Option Literal
only_literal [] = None
only_literal (l ∷ []) = Some l
only_literal (l ∷ k ∷ ls) = None

abbrev pub abbreviation_in : StepRule → List Literal → Option Literal
abbreviation_in (abbreviate s) literals = only_literal literals
abbreviation_in (assume h) literals = None
abbreviation_in (convert p) literals = None
abbreviation_in (inst p sigma) literals = None
abbreviation_in (para p i side q j place_side path) literals = None
abbreviation_in (arrange p) literals = None
abbreviation_in (drop_literal p i) literals = None
abbreviation_in (take_apart p i k a) literals = None
abbreviation_in (bool_ext p i half) literals = None
abbreviation_in (func_ext p i a) literals = None
abbreviation_in (decompose p i) literals = None
abbreviation_in reflexivity literals = None
abbreviation_in choose literals = None
abbreviation_in (factor p i j) literals = None

abbrev pub abbreviation_at : Option Line → Option Literal
abbreviation_at None = None
abbreviation_at (Some l) = abbreviation_in l.rule l.clause.literals

abbrev pub abbreviation_of : List Line → ℕ → Option Literal
abbreviation_of lines a = abbreviation_at (slice_get lines a)

-- for some variables of the step's clause the symbol stands for the chosen term; and it does for those with which it stands
-- where the claim has w in literal i of the step's clause, if it stands there with variables
pub record StandsFor (clause : ClauseTree) (i : ℕ) (claim : Claim) (abbreviation : Literal) : Type 0 where
  pub may_fit : MayFit clause.variables claim abbreviation.right
  pub fits_there : (l : Literal) (xs : List Tree) → slice_get clause.literals i ≡ Some l → SpeaksOf claim (applied_to abbreviation.left xs) l → AreVariablesOf clause.variables xs → Fits clause.variables claim abbreviation.right xs

-- an Abbreviate line is named, whose symbol stands for the chosen term of each claim that the parent's literal becomes
abbrev pub NamesSymbolFor : List Line → ClauseTree → ℕ → Option ℕ → (Claim → Type 0) → Type 0
NamesSymbolFor lines clause i None Becomes = ⊥
NamesSymbolFor lines clause i (Some a) Becomes = IsSomeAnd (abbreviation_of lines a) (λ s. (claim : Claim) → Becomes claim → StandsFor clause i claim s)

abbrev pub IsMissing : Option ℕ → Type 0
IsMissing a = a ≡ None

-- where the kind chooses a term, a symbol for it is named, else none
abbrev pub LogicHasSymbol : List Line → ClauseTree → ℕ → Option ℕ → Literal → LogicKind → Type 0
LogicHasSymbol lines clause i a l kind.AllF = NamesSymbolFor lines clause i a (Claims kind.AllF l)
LogicHasSymbol lines clause i a l kind.SomeT = NamesSymbolFor lines clause i a (Claims kind.SomeT l)
LogicHasSymbol lines clause i a l kind.Not = IsMissing a
LogicHasSymbol lines clause i a l kind.OrT = IsMissing a
LogicHasSymbol lines clause i a l kind.OrF1 = IsMissing a
LogicHasSymbol lines clause i a l kind.OrF2 = IsMissing a
LogicHasSymbol lines clause i a l kind.AndT1 = IsMissing a
LogicHasSymbol lines clause i a l kind.AndT2 = IsMissing a
LogicHasSymbol lines clause i a l kind.AndF = IsMissing a
LogicHasSymbol lines clause i a l kind.ImpT = IsMissing a
LogicHasSymbol lines clause i a l kind.ImpF1 = IsMissing a
LogicHasSymbol lines clause i a l kind.ImpF2 = IsMissing a
LogicHasSymbol lines clause i a l kind.EqT = IsMissing a
LogicHasSymbol lines clause i a l kind.EqF = IsMissing a
LogicHasSymbol lines clause i a l kind.Flip = IsMissing a
LogicHasSymbol lines clause i a l kind.AllT = IsMissing a
LogicHasSymbol lines clause i a l kind.SomeF = IsMissing a

-- for `f ≠ g` a symbol is named for the argument at which they differ, for `f = g` none
abbrev pub FuncExtHasSymbol : List Line → ClauseTree → ℕ → Option ℕ → Literal → Bool → Type 0
FuncExtHasSymbol lines clause i a l true = IsMissing a
FuncExtHasSymbol lines clause i a l false = NamesSymbolFor lines clause i a (λ claim. claim ≡ difference_in l)

abbrev pub HasSymbol : List Tree → List Line → ClauseTree → StepRule → Type 0
HasSymbol hypotheses lines clause (take_apart p i k a) = IsSomeAnd (literal_of lines p i) (λ l. LogicHasSymbol lines clause i a l k)
HasSymbol hypotheses lines clause (func_ext p i a) = IsSomeAnd (literal_of lines p i) (λ l. FuncExtHasSymbol lines clause i a l l.positive)
HasSymbol hypotheses lines clause (abbreviate s) = IsNewSymbol hypotheses lines s clause.literals
HasSymbol hypotheses lines clause (assume h) = Unit {0}
HasSymbol hypotheses lines clause (convert p) = Unit {0}
HasSymbol hypotheses lines clause (inst p sigma) = Unit {0}
HasSymbol hypotheses lines clause (para p i side q j place_side path) = Unit {0}
HasSymbol hypotheses lines clause (arrange p) = Unit {0}
HasSymbol hypotheses lines clause (drop_literal p i) = Unit {0}
HasSymbol hypotheses lines clause (bool_ext p i half) = Unit {0}
HasSymbol hypotheses lines clause (decompose p i) = Unit {0}
HasSymbol hypotheses lines clause reflexivity = Unit {0}
HasSymbol hypotheses lines clause choose = Unit {0}
HasSymbol hypotheses lines clause (factor p i j) = Unit {0}
