-- The verdict on one line. For private contracts.
use Rattle.std.specs.Prelude.{ℕ, ◌≡◌, ◌<◌, List, take, slice_get, Some}
use Rattle.leo_terms.specs.Tree.{Tree}
use Rattle.leo_kernel.specs.Steps.{Line}
use Rattle.leo_kernel.specs.Acceptance.{Accepts, IsRefusedFor}
use Rattle.leo_derive.specs.declared.refusal.CheckRefusal.{CheckRefusal}
use Rattle.leo_derive.specs.declared.refusal.CheckRefusal.TheVariants.{No, Memory}

-- the line of that number is accepted
abbrev pub IsAcceptedAt : List Tree → List Line → ℕ → Type 0
IsAcceptedAt hypotheses lines n = (step : Line) → slice_get lines n ≡ Some step → Accepts hypotheses (take n lines) step

-- it is refused for that reason
abbrev pub IsRefusalAt : List Tree → List Line → ℕ → CheckRefusal → Type 0
IsRefusalAt hypotheses lines n (No at reason) = (step : Line) × (at ≡ n) × (slice_get lines n ≡ Some step) × IsRefusedFor hypotheses (take n lines) step reason
IsRefusalAt hypotheses lines n Memory = Unit {0}

abbrev pub AreAcceptedBelow : List Tree → List Line → ℕ → Type 0
AreAcceptedBelow hypotheses lines n = (m : ℕ) → m < n → IsAcceptedAt hypotheses lines m
