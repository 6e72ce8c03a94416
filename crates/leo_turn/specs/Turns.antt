-- What a search comes to, how it starts, and what one turn makes of it.
use Rattle.std.specs.Prelude.{ℕ, suc, ◌≡◌, ◌%◌, ◌<◌, ◌≤◌, nat_eq, Bool, true, false, List, [], ◌∷◌, ◌++◌, length, map, slice_get, Option, Some, None, IsPermutation}
use Rattle.leo_terms.specs.Tree.{Tree}
use Rattle.leo_terms.specs.Contents.{Contents, tree_at, type_number}
use Rattle.leo_clause.specs.Typed.{IsOver}
use Rattle.leo_clause.specs.Choices.{Choice}
use Rattle.leo_clause.specs.Trees.{ClauseTree}
use Rattle.leo_kernel.specs.Conclusions.{assumed}
use Rattle.leo_clausify.specs.Leaves.{last_clause}
use Rattle.leo_conclude.specs.Conclusions.{AreConclusions}
use Rattle.leo_ext.specs.Members.{Member}
use Rattle.leo_ext.specs.Unary.{AreUnary}
use Rattle.leo_para.specs.Members as para
use Rattle.leo_passive.specs.Entries.{Entry, IsOldest, IsLightest, without}
use Rattle.leo_turn.specs.declared.search.Search.{Search}
use Rattle.leo_turn.specs.Intakes.{Intakes}
use Rattle.leo_turn.specs.Searches.{IsRising, passive_weight, choices_of, kept_of}

-- the choice symbols that stand, and the clauses that are kept
pub record Stock : Type 0 where
  pub choices : List Choice
  pub clauses : List ClauseTree

-- what all turns of a search have in common: how many symbols the problem has, how deep unification guesses, and the greatest weight of a clause that is kept
pub record Setting : Type 0 where
  pub symbols : ℕ
  pub depth : ℕ
  pub weight : ℕ

-- the state of a search, over trees
pub record State : Type 0 where
  pub stock : Stock
  pub active : List ℕ
  pub passive : List Entry
  pub turns : ℕ

-- the symbols have numbers below n
abbrev pub AreChoicesBelow : ℕ → List Choice → Type 0
AreChoicesBelow n [] = Unit {0}
AreChoicesBelow n (k ∷ ks) = (k.number < n) × AreChoicesBelow n ks

-- all symbols of the problem and all choice symbols that stand have numbers below n
pub record AreKnown (setting : Setting) (n : ℕ) (choices : List Choice) : Type 0 where
  pub problem : setting.symbols ≤ n
  pub choices_below : AreChoicesBelow n choices

-- a clause is taken in, and each new choice symbol is none of the problem's and none that stands
pub record TakesIn (setting : Setting) (limit : Option ℕ) (clause : ClauseTree) (old new : Stock) : Type 0 where
  pub known : ℕ
  pub are_known : AreKnown setting known old.choices
  pub intakes : Intakes known limit old.clauses old.choices clause new.clauses new.choices

-- clauses are taken in one after the other
pub data TakesEach (setting : Setting) (limit : Option ℕ) : List ClauseTree → Stock → Stock → Type 0 where
  none_left : (s : Stock) → TakesEach setting limit [] s s
  next : (clause : ClauseTree) (clauses : List ClauseTree) (old middle new : Stock) → TakesIn setting limit clause old middle → TakesEach setting limit clauses middle new → TakesEach setting limit (clause ∷ clauses) old new

-- ---- the start

-- the stock before all else
abbrev pub no_stock : Stock
no_stock = record { choices = []; clauses = [] }

-- the clauses as passive ones, numbered from n on
abbrev pub entries : ℕ → List ClauseTree → List Entry
entries n [] = []
entries n (k ∷ ks) = record { number = n; weight = passive_weight k } ∷ entries (suc n) ks

-- each hypothesis is taken in, whatever the leaves weigh, and what is kept is passive
pub record IsStart (setting : Setting) (hypotheses : List Tree) (s : State) : Type 0 where
  pub taken : TakesEach setting None (map assumed hypotheses) no_stock s.stock
  pub active : s.active ≡ []
  pub passive : s.passive ≡ entries 0 s.stock.clauses
  pub turns : s.turns ≡ 0

-- ---- inferences

-- the clause to which an inference leads, and the numbers of its literals that are to be solved
pub record Constrained : Type 0 where
  pub clause : ClauseTree
  pub constraints : List ℕ

-- what a member of one clause leads to
abbrev pub of_member : ClauseTree → Member → Constrained
of_member c m = record { clause = last_clause c m.lines; constraints = m.pairs }

-- what a paramodulation leads to
abbrev pub of_paramodulation : ClauseTree → ClauseTree → para.Member → Constrained
of_paramodulation source target m = record { clause = (para.member_line source target m).clause; constraints = para.solved_literal source target ∷ [] }

-- the conclusions of an inference are taken in
pub record Works (setting : Setting) (i : Constrained) (old new : Stock) : Type 0 where
  pub conclusions : List ClauseTree
  pub are : AreConclusions i.clause setting.depth i.constraints conclusions
  pub taken : TakesEach setting (Some setting.weight) conclusions old new

-- inferences are worked one after the other
pub data WorksEach (setting : Setting) : List Constrained → Stock → Stock → Type 0 where
  none_left : (s : Stock) → WorksEach setting [] s s
  next : (i : Constrained) (is : List Constrained) (old middle new : Stock) → Works setting i old middle → WorksEach setting is middle new → WorksEach setting (i ∷ is) old new

-- what is inferred from one clause alone; its choice symbols stand before the members are worked
pub record InfersAlone (setting : Setting) (c : ClauseTree) (old new : Stock) : Type 0 where
  pub known : ℕ
  pub are_known : AreKnown setting known old.choices
  pub choices : List Choice
  pub members : List Member
  pub are : AreUnary known old.choices c choices members
  pub worked : WorksEach setting (map (of_member c) members) (record { choices = choices; clauses = old.clauses }) new

-- what is inferred from one clause into another
abbrev pub InfersBetween : Setting → ClauseTree → ClauseTree → Stock → Stock → Type 0
InfersBetween setting source target old new = WorksEach setting (map (of_paramodulation source target) (para.due_members source target)) old new

-- what is inferred between the given clause and a partner: from it into the partner, and then the other way, if the partner is another clause
pub data InfersWith (setting : Setting) (clauses : List ClauseTree) (given : ℕ) : ℕ → Stock → Stock → Type 0 where
  itself : (g : ClauseTree) (old new : Stock) → slice_get clauses given ≡ Some g → InfersBetween setting g g old new → InfersWith setting clauses given given old new
  another : (n : ℕ) (g c : ClauseTree) (old middle new : Stock) → (n ≡ given → ⊥) → slice_get clauses given ≡ Some g → slice_get clauses n ≡ Some c
      → InfersBetween setting g c old middle → InfersBetween setting c g middle new → InfersWith setting clauses given n old new

-- what is inferred with partners, one after the other
pub data InfersWithEach (setting : Setting) (clauses : List ClauseTree) (given : ℕ) : List ℕ → Stock → Stock → Type 0 where
  none_left : (s : Stock) → InfersWithEach setting clauses given [] s s
  next : (n : ℕ) (ns : List ℕ) (old middle new : Stock) → InfersWith setting clauses given n old middle → InfersWithEach setting clauses given ns middle new → InfersWithEach setting clauses given (n ∷ ns) old new

-- all that is inferred from the given clause, alone and with partners; clauses that are kept meanwhile are no partners
pub record Infers (setting : Setting) (given : ℕ) (partners : List ℕ) (old new : Stock) : Type 0 where
  pub clause : ClauseTree
  pub stands : slice_get old.clauses given ≡ Some clause
  pub middle : Stock
  pub alone : InfersAlone setting clause old middle
  pub with_partners : InfersWithEach setting old.clauses given partners middle new

-- ---- a turn

-- the partners: the active clauses and the given one, in the order of their numbers
pub record ArePartners (active : List ℕ) (given : ℕ) (partners : List ℕ) : Type 0 where
  pub rising : IsRising partners
  pub same : IsPermutation (given ∷ active) partners

-- the oldest passive clause, or the lightest one, and of these the oldest
abbrev pub IsFirst : Bool → List Entry → ℕ → Type 0
IsFirst true passive n = IsOldest passive (Some n)
IsFirst false passive n = IsLightest passive (Some n)

-- the clause that the next turn is given: the oldest one in each fifth turn, else the lightest one
abbrev pub IsGiven : State → ℕ → Type 0
IsGiven s n = IsFirst (nat_eq (suc s.turns % 5) 0) s.passive n

-- one turn, with the number of the given clause and how many clauses were kept in it
pub record IsTurn (setting : Setting) (old new : State) (given kept : ℕ) : Type 0 where
  pub is_given : IsGiven old given
  pub partners : List ℕ
  pub are_partners : ArePartners old.active given partners
  pub infers : Infers setting given partners old.stock new.stock
  pub clauses : List ClauseTree
  pub grown : new.stock.clauses ≡ old.stock.clauses ++ clauses
  pub count : kept ≡ length clauses
  pub active : new.active ≡ old.active ++ given ∷ []
  pub passive : new.passive ≡ without given (old.passive ++ entries (length old.stock.clauses) clauses)
  pub turns : new.turns ≡ suc old.turns

-- ---- the state of a search in a bank

abbrev pub stock_of : Contents → Search → Stock
stock_of c s = record { choices = choices_of c s; clauses = kept_of c s }

abbrev pub state_of : Contents → Search → State
state_of c s = record { stock = stock_of c s; active = s.active; passive = s.passive; turns = s.turns }

abbrev pub setting_of : ℕ → Search → Setting
setting_of symbols s = record { symbols = symbols; depth = s.depth; weight = s.weight }

-- the search is for these hypotheses, with this depth and this weight
pub record IsFixed (hyps : List ℕ) (depth weight : ℕ) (s : Search) : Type 0 where
  pub hyps_are : s.hyps ≡ hyps
  pub depth_is : s.depth ≡ depth
  pub weight_is : s.weight ≡ weight

-- the term of the bank is a formula, in which no clause variable and no loose index occurs
pub record IsFormula (c : Contents) (t : ℕ) : Type 0 where
  pub within : t < length c.terms
  pub formula : type_number c t ≡ 0
  pub closed : IsOver [] 0 (tree_at c t)

abbrev pub AreFormulas : Contents → List ℕ → Type 0
AreFormulas c [] = Unit {0}
AreFormulas c (t ∷ ts) = IsFormula c t × AreFormulas c ts
