-- One more entry behind those of smaller numbers.
use Rattle.std.proofs.Common.{◌≡◌, ℕ, ◌+◌, List, [], ◌∷◌, ◌++◌, length, ap, ◌∙◌, arith}
use Rattle.std.proofs.lemmas.List.{length-append}
use Rattle.leo_passive.specs.Entries.{Entry, AreBelow}

pub below-more : (n w : ℕ) (es : List Entry) → AreBelow n es → AreBelow (n + 1) (es ++ record { number = n; weight = w } ∷ [])
below-more n w [] h = (omega arith, tt)
below-more n w (e ∷ es) h = let b = h.0 in (omega (arith, b), below-more n w es h.1)

pub one-more : (n : ℕ) (e : Entry) (es : List Entry) → length es ≡ n → length (es ++ e ∷ []) ≡ n + 1
one-more n e es h = length-append es (e ∷ []) ∙ ap (λ (k : ℕ). k + 1) h
