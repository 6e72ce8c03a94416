-- What reading a piece comes to.
use Rattle.std.specs.Prelude.{ℕ, List}
use Rattle.fo_text.specs.declared.refusal.Stop.{Stop}
use Rattle.fo_text.specs.declared.refusal.Stop.TheVariants.{At, NoRoom}
use Rattle.fo_text.specs.Refusals.{Spells, Opens, Refuses}

-- no piece stands at the front of the input, and so many bytes are left where that shows
abbrev pub IsStop : {X : Type 0} → (X → Type 0) → (X → List ℕ) → List ℕ → Stop → Type 0
IsStop IsX text input (At left) = Refuses (Spells IsX text) (Opens IsX text) input left
IsStop IsX text input NoRoom = Unit {0}
