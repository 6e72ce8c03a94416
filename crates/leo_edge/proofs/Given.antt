-- What a source in memory has given.
use Rattle.std.proofs.Common.{◌≡◌, ℕ, ◌+◌, ◌-◌, ◌≤◌, List, ◌++◌, length, take, drop, min, Option, Some, ap, ap₂, sym, ◌∙◌}
use Rattle.std.proofs.Math.Seq.{take-add}
use Rattle.std.proofs.lemmas.List.{take_min, take_rest, length-take-le}

pub given-more : (content seen buf : List ℕ) (place from n : ℕ) → seen ≡ content → from ≡ min place (length content) →
    n ≤ length (take (length seen - from) (drop from seen)) → take (length (take n (take (length seen - from) (drop from seen)))) buf ≡ take n (take (length seen - from) (drop from seen)) →
    ◌≡◌ {A = Option (List ℕ)} (Some (take (from + n) content)) (Some (take place content ++ take n buf))
given-more content seen buf place from n same e within front =
    let left = rw (length-take-le n (take (length seen - from) (drop from seen)) within) at front in
    let rest = left ∙ ap (take n) (take_rest seen from ∙ ap (drop from) same) in
    ap Some (take-add from n content ∙ ap₂ (λ xs ys. xs ++ ys) (ap (λ k. take k content) e ∙ take_min place content) (sym rest))
