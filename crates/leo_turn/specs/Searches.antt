-- When a search is valid.
use Rattle.std.specs.Prelude.{ℕ, suc, ◌≡◌, ◌+◌, ◌-◌, ◌^◌, ◌<◌, ◌≤◌, List, [], ◌∷◌, length, map, min, nat_eq, slice_get, Some, None, if◌then◌else◌}
use Rattle.leo_terms.specs.Tree.{Tree}
use Rattle.leo_terms.specs.Contents.{Contents, AreTerms, tree_at}
use Rattle.leo_clause.specs.declared.clause.Clause.{Clause}
use Rattle.leo_clause.specs.Choices.{Choice, choices_at}
use Rattle.leo_clause.specs.Trees.{ClauseTree, clause_at}
use Rattle.leo_clause.specs.Weights.{clause_weight}
use Rattle.leo_kernel.specs.Acceptance.{AreAccepted}
use Rattle.leo_kernel.specs.Records.{AreStepsOf}
use Rattle.leo_kernel.specs.Steps.{Line, line_at}
use Rattle.leo_kernel.specs.Symbols.{abbreviation_of}
use Rattle.leo_clausify.specs.Choosing.{AreInOrder}
use Rattle.leo_clausify.specs.Leaves.{choice_line}
use Rattle.leo_clausify.specs.Splitting.{AreNormal}
use Rattle.leo_keep.specs.Fronts.{AreFronts}
use Rattle.leo_keep.specs.Outcomes.{AreTypedIn}
use Rattle.leo_passive.specs.Entries.{Entry, AreBelow}
use Rattle.leo_turn.specs.declared.search.Search.{Search}
use Rattle.leo_turn.specs.Origins.{AreFrom}

-- what a search has, as trees
abbrev pub hypotheses_of : Contents → Search → List Tree
hypotheses_of c s = map (tree_at c) s.hyps

abbrev pub lines_of : Contents → Search → List Line
lines_of c s = map (line_at c) s.lines

abbrev pub choices_of : Contents → Search → List Choice
choices_of c s = choices_at c s.abbr

abbrev pub kept_of : Contents → Search → List ClauseTree
kept_of c s = map (clause_at c) s.kept

-- all sides of the clauses are in normal form
abbrev pub AreNormalIn : Contents → List Clause → Type 0
AreNormalIn c [] = Unit {0}
AreNormalIn c (k ∷ ks) = AreNormal (clause_at c k).literals × AreNormalIn c ks

-- line n has the clause
pub record HasClause (lines : List Line) (n : ℕ) (k : ClauseTree) : Type 0 where
  pub line : Line
  pub stands : slice_get lines n ≡ Some line
  pub clause_is : line.clause ≡ k

-- the lines with these numbers have these clauses, one for each
abbrev pub HaveClauses : List Line → List ℕ → List ClauseTree → Type 0
HaveClauses lines [] [] = Unit {0}
HaveClauses lines [] (k ∷ ks) = ⊥
HaveClauses lines (n ∷ ns) [] = ⊥
HaveClauses lines (n ∷ ns) (k ∷ ks) = HasClause lines n k × HaveClauses lines ns ks

-- no line with one of these numbers abbreviates
abbrev pub ArePlain : List Line → List ℕ → Type 0
ArePlain lines [] = Unit {0}
ArePlain lines (n ∷ ns) = (abbreviation_of lines n ≡ None) × ArePlain lines ns

-- the lines with these numbers abbreviate by these choice symbols, one for each
abbrev pub HaveChoices : List Line → List ℕ → List Choice → Type 0
HaveChoices lines [] [] = Unit {0}
HaveChoices lines [] (k ∷ ks) = ⊥
HaveChoices lines (n ∷ ns) [] = ⊥
HaveChoices lines (n ∷ ns) (k ∷ ks) = (slice_get lines n ≡ Some (choice_line k)) × HaveChoices lines ns ks

-- the numbers rise
abbrev pub AreAbove : ℕ → List ℕ → Type 0
AreAbove n [] = Unit {0}
AreAbove n (m ∷ ms) = (n < m) × AreAbove n ms

abbrev pub IsRising : List ℕ → Type 0
IsRising [] = Unit {0}
IsRising (n ∷ ns) = AreAbove n ns × IsRising ns

-- each of these numbers is below n
abbrev pub AreAllBelow : ℕ → List ℕ → Type 0
AreAllBelow n [] = Unit {0}
AreAllBelow n (m ∷ ms) = (m < n) × AreAllBelow n ms

-- how often a number stands there
abbrev pub times : ℕ → List ℕ → ℕ
times n [] = 0
times n (m ∷ ms) = if nat_eq n m then suc (times n ms) else times n ms

abbrev pub numbers_of : List Entry → List ℕ
numbers_of es = map (λ (e : Entry). e.number) es

-- each number below the count stands once among the active ones or the passive ones, and in one of the two alone; no other does
pub record AreShared (count : ℕ) (active : List ℕ) (passive : List Entry) : Type 0 where
  pub active_below : AreAllBelow count active
  pub passive_below : AreBelow count passive
  pub once : (n : ℕ) → n < count → times n active + times n (numbers_of passive) ≡ 1

-- the weight with which a clause is passive
abbrev pub passive_weight : ClauseTree → ℕ
passive_weight k = min (clause_weight k) (2 ^ 64 - 1)

-- each entry has the weight of its clause
abbrev pub HaveWeights : List ClauseTree → List Entry → Type 0
HaveWeights clauses [] = Unit {0}
HaveWeights clauses (e ∷ es) = ((k : ClauseTree) → slice_get clauses e.number ≡ Some k → e.weight ≡ passive_weight k) × HaveWeights clauses es

-- the search is valid
pub record IsSearch (c : Contents) (s : Search) : Type 0 where
  pub hypotheses : AreTerms c s.hyps
  pub steps : AreStepsOf c s.lines
  pub accepted : AreAccepted (hypotheses_of c s) (lines_of c s)
  pub origin : AreFrom (hypotheses_of c s) (lines_of c s)
  pub choices : AreInOrder c s.abbr.items
  pub choice_lines : HaveChoices (lines_of c s) s.abbr_at (choices_of c s)
  pub rising : IsRising s.abbr_at
  pub typed : AreTypedIn c s.kept
  pub fronts : AreFronts c s.kept s.fronts
  pub normal : AreNormalIn c s.kept
  pub few : length s.kept ≤ 200000
  pub clause_lines : HaveClauses (lines_of c s) s.at (kept_of c s)
  pub plain : ArePlain (lines_of c s) s.at
  pub shared : AreShared (length s.kept) s.active s.passive
  pub weights : HaveWeights (kept_of c s) s.passive
