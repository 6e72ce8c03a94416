-- Marks on the lines on which a line rests. For private contracts.
use Rattle.std.specs.Prelude.{ℕ, ◌≡◌, ◌↔◌, ◌<◌, ◌≤◌, ◌+◌, Bool, true, false, List, [], ◌∷◌, length, slice_get, set, get_or, Some}
use Rattle.std.specs.List.{Contains}
use Rattle.leo_kernel.specs.Steps.{abbreviate, Line}
use Rattle.leo_derive.specs.Resting.{named, RestsOn}
use Rattle.leo_derive.specs.Symbols.{symbols_in_line, IsOneOf}

-- the marks with one more for each of these lines
abbrev pub with_marks : List Bool → List ℕ → List Bool
with_marks marks [] = marks
with_marks marks (n ∷ ns) = with_marks (set marks n true) ns

abbrev pub is_marked : List Bool → ℕ → Bool
is_marked marks n = get_or marks n false

-- each of these numbers is below n
abbrev pub AreNumbersBelow : ℕ → List ℕ → Type 0
AreNumbersBelow n [] = Unit {0}
AreNumbersBelow n (m ∷ ms) = (m < n) × AreNumbersBelow n ms

-- what a line rests on stands before it, but for the abbreviation of a symbol that it introduces itself
pub record AreInOrder (lines : List Line) : Type 0 where
  pub named_earlier : (n : ℕ) (l : Line) → slice_get lines n ≡ Some l → AreNumbersBelow n (named l.rule)
  pub symbols_earlier : (n m : ℕ) (l k : Line) (s : ℕ) → slice_get lines n ≡ Some l → IsOneOf s (symbols_in_line l) → slice_get lines m ≡ Some k → k.rule ≡ abbreviate s → m ≤ n

-- from line n on each marked line has its marks and its symbols
pub record IsMarkedFrom (lines : List Line) (goal n : ℕ) (marks : List Bool) (symbols : List ℕ) : Type 0 where
  pub length_is : length marks ≡ length lines
  pub goal_marked : is_marked marks goal ≡ true
  pub sound : (m : ℕ) → is_marked marks m ≡ true → RestsOn lines goal m
  pub named_marked : (k p : ℕ) (l : Line) → n ≤ k → is_marked marks k ≡ true → slice_get lines k ≡ Some l → Contains (named l.rule) p → is_marked marks p ≡ true
  pub symbols_sound : (s : ℕ) → IsOneOf s symbols → (k : ℕ) × (l : Line) × (n ≤ k) × (is_marked marks k ≡ true) × (slice_get lines k ≡ Some l) × IsOneOf s (symbols_in_line l)
  pub symbols_known : (k s : ℕ) (l : Line) → n ≤ k → is_marked marks k ≡ true → slice_get lines k ≡ Some l → IsOneOf s (symbols_in_line l) → IsOneOf s symbols
  pub symbols_marked : (k m s : ℕ) (l j : Line) → n ≤ k → n ≤ m → is_marked marks k ≡ true → slice_get lines k ≡ Some l → IsOneOf s (symbols_in_line l) → slice_get lines m ≡ Some j → j.rule ≡ abbreviate s → is_marked marks m ≡ true

-- line n is marked if it abbreviates by a symbol that was met
pub record IsReached (lines : List Line) (goal n : ℕ) (l : Line) (marks : List Bool) (symbols : List ℕ) : Type 0 where
  pub from_next : IsMarkedFrom lines goal (n + 1) marks symbols
  pub reached : (s : ℕ) → l.rule ≡ abbreviate s → IsOneOf s symbols → is_marked marks n ≡ true

-- exactly the lines on which the line rests are marked
pub record AreMarks (lines : List Line) (goal : ℕ) (marks : List Bool) : Type 0 where
  pub length_is : length marks ≡ length lines
  pub exactly : (n : ℕ) → (is_marked marks n ≡ true) ↔ RestsOn lines goal n
