-- The lines on which the first empty line rests, numbered anew.
use Rattle.std.specs.Prelude.{ℕ, zero, suc, ◌≡◌, ◌↔◌, Bool, true, List, [], ◌∷◌, if◌then◌else◌, Option, Some, None}
use Rattle.leo_kernel.specs.Steps.{StepRule, assume, convert, inst, para, arrange, drop_literal, take_apart, bool_ext, func_ext, decompose, reflexivity, choose, factor, abbreviate, Line}
use Rattle.leo_derive.specs.Resting.{RestsOn, IsFirstEmpty}

-- how many of the first n are kept: the new number of line n
abbrev pub kept_before : (ℕ → Bool) → ℕ → ℕ
kept_before keeps zero = 0
kept_before keeps (suc n) = if keeps n then suc (kept_before keeps n) else kept_before keeps n

abbrev pub numbered_if : (ℕ → ℕ) → Option ℕ → Option ℕ
numbered_if number None = None
numbered_if number (Some a) = Some (number a)

-- the rule with other numbers for the lines that it names
abbrev pub numbered_rule : (ℕ → ℕ) → StepRule → StepRule
numbered_rule number (assume h) = assume h
numbered_rule number (convert p) = convert (number p)
numbered_rule number (inst p sigma) = inst (number p) sigma
numbered_rule number (para p i s q j r path) = para (number p) i s (number q) j r path
numbered_rule number (arrange p) = arrange (number p)
numbered_rule number (drop_literal p i) = drop_literal (number p) i
numbered_rule number (take_apart p i kind a) = take_apart (number p) i kind (numbered_if number a)
numbered_rule number (bool_ext p i half) = bool_ext (number p) i half
numbered_rule number (func_ext p i a) = func_ext (number p) i (numbered_if number a)
numbered_rule number (decompose p i) = decompose (number p) i
numbered_rule number reflexivity = reflexivity
numbered_rule number choose = choose
numbered_rule number (factor p i j) = factor (number p) i j
numbered_rule number (abbreviate s) = abbreviate s

abbrev pub numbered_line : (ℕ → ℕ) → Line → Line
numbered_line number l = record { clause = l.clause; rule = numbered_rule number l.rule }

-- of lines whose first has the number n, those that are kept, in order and numbered anew
abbrev pub kept_lines : (ℕ → Bool) → ℕ → List Line → List Line
kept_lines keeps n [] = []
kept_lines keeps n (l ∷ ls) = if keeps n then numbered_line (kept_before keeps) l ∷ kept_lines keeps (suc n) ls else kept_lines keeps (suc n) ls

-- kept are exactly the lines on which the first empty line rests
pub record IsPruned (lines result : List Line) : Type 0 where
  pub goal : ℕ
  pub goal_is : IsFirstEmpty lines goal
  pub keeps : ℕ → Bool
  pub keeps_exactly : (n : ℕ) → (keeps n ≡ true) ↔ RestsOn lines goal n
  pub result_is : result ≡ kept_lines keeps 0 lines
