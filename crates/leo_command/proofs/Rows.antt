-- The rows of what a parse found.
use Rattle.std.proofs.Common.{◌≡◌, sym, refl, Bool, true, false, ℕ, List, [], ◌∷◌, map}
use Rattle.std.specs.Prelude.{option_map, option_and_then, find, slice_get}
use Rattle.std.specs.Str.{bytes_eq}
use Rattle.std.proofs.lemmas.Option.{slice_get-map}
use Rattle.clap.specs.Facts.{Entry}
use Rattle.clap.specs.Walk.{row_of}
use Rattle.clap.specs.Words.{first_of, first_value, rows_of}
use Rattle.clap.specs.declared.parser.matches.Found.{Found}

abbrev first_in : List Entry → List ℕ → Type 0
first_in es id = option_and_then (λ a. option_map (λ s. s.now) (slice_get a.vals.items 0)) (option_map (λ e. e.1) (find (λ e. bytes_eq e.0.now id) es)) ≡ first_of id (map row_of es)

first_in-all : (es : List Entry) (id : List ℕ) → first_in es id
first_in-all [] id = refl
first_in-all (e ∷ es) id = go (bytes_eq e.0.now id) refl (first_in-all es id)
  where
    go : (b : Bool) → bytes_eq e.0.now id ≡ b → first_in es id → first_in (e ∷ es) id
    go true h rest = rw h (sym (slice_get-map (λ s. s.now) e.1.vals.items 0))
    go false h rest = rw h rest

-- the first value of an id is that of its row
pub first_value-row : (f : Found) (id : List ℕ) → first_value f id ≡ first_of id (rows_of f)
first_value-row f id = first_in-all f.entries.items id
