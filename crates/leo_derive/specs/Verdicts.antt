-- The answer to a whole derivation.
use Rattle.std.specs.Prelude.{ℕ, ◌≡◌, List, length, map, take, slice_get, Some, Result, Ok, Err}
use Rattle.leo_terms.specs.Tree.{Tree}
use Rattle.leo_terms.specs.Contents.{tree_at}
use Rattle.leo_kernel.specs.declared.reason.Reason.{Reason}
use Rattle.leo_kernel.specs.declared.reason.Reason.TheVariants.{NoEmpty}
use Rattle.leo_kernel.specs.Steps.{Line}
use Rattle.leo_kernel.specs.Acceptance.{IsRefusedFor, AreAccepted}
use Rattle.leo_problem.specs.declared.loaded.Problem.{Problem}
use Rattle.leo_derive.specs.declared.refusal.CheckRefusal.{CheckRefusal}
use Rattle.leo_derive.specs.declared.refusal.CheckRefusal.TheVariants.{No, Memory}
use Rattle.leo_derive.specs.Laws.{HasEmptyLine}

-- each line is accepted, and one of them is empty
abbrev pub IsRefutation : List Tree → List Line → Type 0
IsRefutation hypotheses lines = AreAccepted hypotheses lines × HasEmptyLine lines

-- the first line that is refused, with the reason; or how many lines there are, where all are accepted and none is empty
pub data IsRefusedAt (hypotheses : List Tree) (lines : List Line) : ℕ → Reason → Type 0 where
  line : {n : ℕ} {step : Line} {reason : Reason} → AreAccepted hypotheses (take n lines) → slice_get lines n ≡ Some step → IsRefusedFor hypotheses (take n lines) step reason
      → IsRefusedAt hypotheses lines n reason
  no_empty : AreAccepted hypotheses lines → (HasEmptyLine lines → ⊥) → IsRefusedAt hypotheses lines (length lines) NoEmpty

-- memory may run out at any line; each other answer is the right one
abbrev pub IsVerdict : List Tree → List Line → Result Unit CheckRefusal → Type 0
IsVerdict hypotheses lines (Ok u) = IsRefutation hypotheses lines
IsVerdict hypotheses lines (Err (No n reason)) = IsRefusedAt hypotheses lines n reason
IsVerdict hypotheses lines (Err Memory) = Unit {0}

-- the hypotheses of a problem
abbrev pub hypotheses_of : Problem → List Tree
hypotheses_of p = map (λ h. tree_at p.bank h.term) p.hyps
