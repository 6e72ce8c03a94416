-- Lists of names that each stand for something.
use Rattle.std.specs.Prelude.{◌≡◌, ℕ, List, [], ◌∷◌, None, if◌then◌else◌}
use Rattle.std.specs.Option.{is_some}
use Rattle.std.specs.Str.{bytes_eq}
use Rattle.leo_elab.specs.Problem.{named}

-- the pairs without those of a name
abbrev pub without : {A : Type 0} → List ℕ → List (List ℕ × A) → List (List ℕ × A)
without name [] = []
without name (p ∷ ps) = if bytes_eq p.0 name then without name ps else p ∷ without name ps

-- the pairs without those whose names stand in another list
abbrev pub beyond : {A B : Type 0} → List (List ℕ × B) → List (List ℕ × A) → List (List ℕ × A)
beyond known [] = []
beyond known (p ∷ ps) = if is_some (named p.0 known) then beyond known ps else p ∷ beyond known ps

-- each name stands there once
abbrev pub IsEachOnce : {A : Type 0} → List (List ℕ × A) → Type 0
IsEachOnce [] = Unit {0}
IsEachOnce (p ∷ ps) = (named p.0 ps ≡ None) × IsEachOnce ps

-- none of the names of the second list stands in the first
abbrev pub AreNew : {A B : Type 0} → List (List ℕ × B) → List (List ℕ × A) → Type 0
AreNew known [] = Unit {0}
AreNew known (p ∷ ps) = (named p.0 known ≡ None) × AreNew known ps
