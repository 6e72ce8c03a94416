-- The symbols that the lines of a derivation introduce.
use Rattle.std.specs.Prelude.{ℕ, ◌+◌, ◌≤◌, List, [], ◌∷◌}
use Rattle.std.specs.List.{flat_map}
use Rattle.leo_clause.specs.declared.record.Rule.{Rule}
use Rattle.leo_clause.specs.declared.record.Rule.TheVariants as record_of
use Rattle.leo_clause.specs.declared.record.StepRecord.{StepRecord}

abbrev pub introduced_by : Rule → List ℕ
introduced_by (record_of.Abbreviate s) = s ∷ []
introduced_by _ = []

-- in order
abbrev pub introduced : List StepRecord → List ℕ
introduced steps = flat_map (λ s. introduced_by s.rule) steps

-- numbers from one on that rise and stay below a top
abbrev pub IsRising : ℕ → List ℕ → ℕ → Type 0
IsRising n [] top = n ≤ top
IsRising n (s ∷ ss) top = (n ≤ s) × IsRising (s + 1) ss top
