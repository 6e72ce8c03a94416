-- The atoms of a number, found by place.
use Rattle.std.proofs.Common.{true, false, cond, eqb, ℕ, ◌+◌, ◌≡◌, List, ◌∷◌, map, slice_get, drop, nat_eq, Some, if◌then◌else◌, ap, sym, ◌∙◌}
use Rattle.std.specs.Option.{option_map}
use Rattle.std.proofs.lemmas.Option.{slice_get-map}
use Rattle.leo_elab.specs.Table.{atom_of}
use Rattle.leo_elab.proofs.Declarations.{drop-here}

module _ {K : Type 0} (text : K → List ℕ) (es : List (K × ℕ)) (k n s : ℕ) (key : K) (h : Some (key, s) ≡ slice_get es k) where
  abbrev entry : K × ℕ → List ℕ × ℕ
  entry p = (text p.0, p.1)

  here : atom_of n (drop k (map entry es)) ≡ (if nat_eq s n then Some (text key) else atom_of n (drop (k + 1) (map entry es)))
  here = ap (atom_of n) (drop-here (map entry es) k (text key, s) (slice_get-map entry es k ∙ ap (option_map entry) (sym h)))

  pub atom-found : eqb s n ≡ true → atom_of n (drop k (map entry es)) ≡ Some (text key)
  atom-found e = here ∙ ap (λ b. cond b (Some (text key)) (atom_of n (drop (k + 1) (map entry es)))) e

  pub atom-further : eqb s n ≡ false → atom_of n (drop k (map entry es)) ≡ atom_of n (drop (k + 1) (map entry es))
  atom-further e = here ∙ ap (λ b. cond b (Some (text key)) (atom_of n (drop (k + 1) (map entry es)))) e
