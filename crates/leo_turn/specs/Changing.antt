-- How the calls below `intake` change a search. For private contracts.
use Rattle.std.specs.Prelude.{ℕ, zero, suc, ◌≡◌, ◌-◌, ◌<◌, ◌≤◌, ◌^◌, List, [], ◌∷◌, ◌++◌, length, map, take, get_or, slice_get, Option, Some, None, IsTrue}
use Rattle.leo_terms.specs.Tree.{Tree}
use Rattle.leo_terms.specs.Contents.{Contents, tree_at}
use Rattle.leo_clause.specs.declared.clause.Clause.{Clause}
use Rattle.leo_clause.specs.declared.record.StepRecord.{StepRecord}
use Rattle.leo_clause.specs.Choices.{Choice, choice_at}
use Rattle.leo_clause.specs.Trees.{ClauseTree, clause_at}
use Rattle.leo_clause.specs.Typed.{IsClauseOf, IsTypedIn}
use Rattle.leo_kernel.specs.Acceptance.{AreAccepted, AreAcceptedAfter}
use Rattle.leo_kernel.specs.Records.{IsStepOf, AreStepsOf}
use Rattle.leo_kernel.specs.Steps.{StepRule, Line, convert, line_at, rule_at, clause_of}
use Rattle.leo_kernel.specs.Symbols.{LackSymbol, LinesLackSymbol, abbreviation_of}
use Rattle.leo_clausify.specs.Leaves.{IsLeafOf, choice_line, last_clause}
use Rattle.leo_clausify.specs.declared.leaves.Leaf.{Leaf}
use Rattle.leo_derive.specs.Pruning.{numbered_line}
use Rattle.leo_keep.specs.declared.fronts.Front.{Front}
use Rattle.leo_passive.specs.Entries.{Entry, without, has_number}
use Rattle.leo_turn.specs.declared.marks.Mark.{Mark}
use Rattle.leo_turn.specs.declared.search.Search.{Search}
use Rattle.leo_turn.specs.Searches.{ArePlain, HasClause, HaveChoices, HaveClauses, IsSearch, choices_of, hypotheses_of, lines_of}
use Rattle.leo_turn.specs.Growth.{IsLonger}
use Rattle.leo_turn.specs.Intakes.{normal_clause}
use Rattle.leo_turn.specs.Origins.{AreFrom, IsOriginOf}
use Rattle.leo_clausify.specs.Origins.{Origin, IsChoiceFrom, IsTermFrom, AreLinesFrom}
use Rattle.leo_clausify.specs.Splitting.{AreNormal}

-- the search with another journal
abbrev pub with_lines : Search → List StepRecord → Search
with_lines s lines = record { hyps = s.hyps; abbr = s.abbr; abbr_at = s.abbr_at; kept = s.kept; fronts = s.fronts; active = s.active; passive = s.passive; lines = lines; at = s.at; turns = s.turns; depth = s.depth; weight = s.weight }

-- the search with a choice symbol more, which this line introduces
abbrev pub with_choice : Search → StepRecord → ℕ × ℕ → Search
with_choice s line item = record { hyps = s.hyps; abbr = record { items = s.abbr.items ++ item ∷ [] }; abbr_at = s.abbr_at ++ length s.lines ∷ []; kept = s.kept; fronts = s.fronts; active = s.active; passive = s.passive; lines = s.lines ++ line ∷ []; at = s.at; turns = s.turns; depth = s.depth; weight = s.weight }

-- the search with a kept clause more, which has that front, which line n has, and which is passive
abbrev pub with_clause : Search → Clause → Option Front → ℕ → ℕ → Search
with_clause s k f n weight = record { hyps = s.hyps; abbr = s.abbr; abbr_at = s.abbr_at; kept = s.kept ++ k ∷ []; fronts = s.fronts ++ f ∷ []; active = s.active; passive = s.passive ++ record { number = length s.kept; weight = weight } ∷ []; lines = s.lines; at = s.at ++ n ∷ []; turns = s.turns; depth = s.depth; weight = s.weight }

-- the entries without those with n numbers from `first` on
abbrev pub without_range : ℕ → ℕ → List Entry → List Entry
without_range first zero es = es
without_range first (suc n) es = without_range (suc first) n (without first es)

-- these numbers stand there
abbrev pub AreThere : ℕ → ℕ → List Entry → Type 0
AreThere first zero es = Unit {0}
AreThere first (suc n) es = IsTrue (has_number first es) × AreThere (suc first) n (without first es)

-- how much a search has
abbrev pub mark_of : Search → Mark
mark_of s = record { lines = length s.lines; abbr = length s.abbr.items; abbr_at = length s.abbr_at; at = length s.at; fronts = length s.fronts; kept = length s.kept }

-- there is so much in the search
pub record Reaches (s : Search) (m : Mark) : Type 0 where
  pub lines : m.lines ≤ length s.lines
  pub abbr : m.abbr ≤ length s.abbr.items
  pub abbr_at : m.abbr_at ≤ length s.abbr_at
  pub at : m.at ≤ length s.at
  pub fronts : m.fronts ≤ length s.fronts
  pub kept : m.kept ≤ length s.kept
  pub few : length s.kept < 2 ^ 32
  pub there : AreThere m.kept (length s.kept - m.kept) s.passive

-- what is left of it
abbrev pub cut_to : Mark → Search → Search
cut_to m s = record { hyps = s.hyps; abbr = record { items = take m.abbr s.abbr.items }; abbr_at = take m.abbr_at s.abbr_at; kept = take m.kept s.kept; fronts = take m.fronts s.fronts; active = s.active; passive = without_range m.kept (length s.kept - m.kept) s.passive; lines = take m.lines s.lines; at = take m.at s.at; turns = s.turns; depth = s.depth; weight = s.weight }

-- the clause of a bank reads as this
pub record IsClauseIn (c : Contents) (k : Clause) (t : ClauseTree) : Type 0 where
  pub of_bank : IsClauseOf c k
  pub reads : clause_at c k ≡ t

-- line q of some lines has the clause of line p of others, and abbreviates by the same symbol, if by any
pub record IsSame (earlier later : List Line) (p q : ℕ) : Type 0 where
  pub within : q < length later
  pub clause_same : clause_of later q ≡ clause_of earlier p
  pub abbreviation_same : abbreviation_of later q ≡ abbreviation_of earlier p

-- these are their numbers among the later lines
pub record AreSame (earlier later : List Line) (numbers : List ℕ) : Type 0 where
  pub as_many : length numbers ≡ length earlier
  pub same : (p : ℕ) → p < length earlier → IsSame earlier later p (get_or numbers p 0)

-- a record came to a journal with these numbers for the lines that it names, and its own number to the numbers
pub record IsAppended (c : Contents) (r : StepRecord) (old new : List StepRecord) (numbers later : List ℕ) : Type 0 where
  pub record_of : StepRecord
  pub step : IsStepOf c record_of
  pub line : line_at c record_of ≡ numbered_line (λ n. get_or numbers n 0) (line_at c r)
  pub appended : new ≡ old ++ record_of ∷ []
  pub number : later ≡ numbers ++ length old ∷ []

-- the lines of choice symbols, and then lines of clauses, which all come by one rule
abbrev pub lines_before : List Choice → List ClauseTree → StepRule → List Line
lines_before choices clauses rule = map choice_line choices ++ map (λ k. record { clause = k; rule = rule }) clauses

-- the lines with these numbers are those of choice symbols, and then plain ones of clauses
pub record AreFirst (lines : List Line) (numbers : List ℕ) (choices : List Choice) (clauses : List ClauseTree) : Type 0 where
  pub symbols : List ℕ
  pub parents : List ℕ
  pub numbers_are : numbers ≡ symbols ++ parents
  pub choice_lines : HaveChoices lines symbols choices
  pub clause_lines : HaveClauses lines parents clauses
  pub plain : ArePlain lines parents

-- the records follow on the lines with these numbers, those of some choice symbols and then of one clause or more
pub record AreReady (c : Contents) (lines : List StepRecord) (numbers : List ℕ) (records : List StepRecord) : Type 0 where
  pub choices : List Choice
  pub clauses : List ClauseTree
  pub some : 0 < length clauses
  pub first : AreFirst (map (line_at c) lines) numbers choices clauses
  pub steps : AreStepsOf c records
  pub accepted : (rule : StepRule) → AreAcceptedAfter (lines_before choices clauses rule) (map (line_at c) records)

-- the lines are from each origin of the hypotheses and of these earlier lines
abbrev pub AreAllFrom : List Tree → List Line → List Line → Type 0
AreAllFrom hypotheses earlier lines = (o : Origin) → IsOriginOf hypotheses earlier o → AreLinesFrom o lines

-- so is the term
abbrev pub IsAllFrom : List Tree → List Line → Tree → Type 0
IsAllFrom hypotheses earlier t = (o : Origin) → IsOriginOf hypotheses earlier o → IsTermFrom o t

-- a journal with these records more is one still, and ends with their last clause, in a line that does not abbreviate. Its lines
-- are from the hypotheses, if those before are, and the records are from each origin of these
pub record AreAppended (c : Contents) (records old new : List StepRecord) : Type 0 where
  pub steps : AreStepsOf c old → AreStepsOf c new
  pub accepted : (hypotheses : List Tree) → AreAccepted hypotheses (map (line_at c) old) → AreAccepted hypotheses (map (line_at c) new)
  pub origin : (hypotheses : List Tree) → AreFrom hypotheses (map (line_at c) old) → AreAllFrom hypotheses (map (line_at c) old) (map (line_at c) records) → AreFrom hypotheses (map (line_at c) new)
  pub ends : (k : ClauseTree) → 0 < length records → HasClause (map (line_at c) new) (length new - 1) (last_clause k (map (line_at c) records))
  pub plain : 0 < length records → abbreviation_of (map (line_at c) new) (length new - 1) ≡ None

-- no line and no hypothesis has the symbol of an item that is not introduced yet, and its term is from each origin of these and of
-- the items before it
pub record AreNew (c : Contents) (s : Search) (items : List (ℕ × ℕ)) : Type 0 where
  pub hypotheses_lack : (n : ℕ) (k : ℕ × ℕ) → slice_get items n ≡ Some k → length s.abbr.items ≤ n → LackSymbol k.0 (hypotheses_of c s)
  pub lines_lack : (n : ℕ) (k : ℕ × ℕ) → slice_get items n ≡ Some k → length s.abbr.items ≤ n → LinesLackSymbol k.0 (lines_of c s)
  pub terms_from : (n : ℕ) (k : ℕ × ℕ) → slice_get items n ≡ Some k → length s.abbr.items ≤ n → (o : Origin) → IsOriginOf (hypotheses_of c s) (lines_of c s) o
      → ((m : ℕ) (j : ℕ × ℕ) → m < n → slice_get items m ≡ Some j → IsChoiceFrom o (choice_at c j)) → IsTermFrom o (tree_at c k.1)

-- the search with this choice symbol more, and its line
pub record IsAnnounced (c : Contents) (old new : Search) (item : ℕ × ℕ) : Type 0 where
  pub line : StepRecord
  pub line_is : line_at c line ≡ choice_line (choice_at c item)
  pub search : IsSearch c new
  pub new_is : new ≡ with_choice old line item

-- a valid search with all of the choice symbols and the same kept clauses, whose journal grew
pub record AreAnnounced (c : Contents) (old new : Search) (items : List (ℕ × ℕ)) : Type 0 where
  pub search : IsSearch c new
  pub abbr : new.abbr.items ≡ items
  pub kept : new.kept ≡ old.kept
  pub lines : IsLonger old.lines new.lines

-- the leaf follows on the lines of the choice symbols and line n, which is plain
pub record IsLeafAt (c : Contents) (s : Search) (n : ℕ) (leaf : Leaf) : Type 0 where
  pub start : ClauseTree
  pub clause : HasClause (lines_of c s) n start
  pub plain : abbreviation_of (lines_of c s) n ≡ None
  pub leaf_of : IsLeafOf c (choices_of c s) start leaf

abbrev pub AreLeavesOf : Contents → Search → ℕ → List Leaf → Type 0
AreLeavesOf c s n [] = Unit {0}
AreLeavesOf c s n (leaf ∷ leaves) = IsLeafAt c s n leaf × AreLeavesOf c s n leaves

-- the choice symbols are the same, and so are the lines that were there
pub record HasSameSymbols (c : Contents) (old new : Search) : Type 0 where
  pub abbr : new.abbr ≡ old.abbr
  pub lines : IsLonger (lines_of c old) (lines_of c new)

-- the leaf is the last kept clause now
pub record IsKept (c : Contents) (old new : Search) (leaf : Leaf) : Type 0 where
  pub search : IsSearch c new
  pub start : HasSameSymbols c old new
  pub kept : new.kept ≡ old.kept ++ leaf.clause ∷ []

-- the normal form of the clause of a line came to the journal
pub record IsConverted (b c : Contents) (old new : Search) (line : ℕ) (k : Clause) : Type 0 where
  pub search : IsSearch c new
  pub typed : IsTypedIn c k
  pub reads : clause_at c k ≡ normal_clause (clause_of (lines_of b old) line)
  pub normal : AreNormal (clause_at c k).literals
  pub record_of : StepRecord
  pub new_is : new ≡ with_lines old (old.lines ++ record_of ∷ [])
  pub clause : (clause_at c record_of.clause) ≡ clause_at c k
  pub plain : rule_at c record_of.rule ≡ convert line
