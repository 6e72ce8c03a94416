-- What stands behind the front of a list.
use Rattle.std.proofs.Common.{◌≡◌, ℕ, ◌+◌, ◌≤◌, List, ◌++◌, length, take, drop, None, ap, sym, ◌∙◌, arith}
use Rattle.std.proofs.lemmas.List.{take-append-drop, length-drop}
use Rattle.leo_edge.specs.Outside.{Appends}

pub appended : (old new : List ℕ) (limit : ℕ) → take (length old) new ≡ old → length new ≤ length old + limit →
    Appends old new limit None
appended old new limit front within =
    let e = length-drop (length old) new in
    record {
      bytes = drop (length old) new;
      appended = sym (take-append-drop (length old) new) ∙ ap (λ xs. xs ++ drop (length old) new) front;
      within = omega arith;
      is_told = tt;
    }
