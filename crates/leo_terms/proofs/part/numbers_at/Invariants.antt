use Rattle.std.proofs.Common.{◌≡◌, get_or, map, take}
use Rattle.leo_terms.proofs.part.numbers_at.Given as goal

abbrev pub invariant-loop-t : goal.invariant-loop-t
invariant-loop-t l = l.moved.items ≡ take l.t-index (map (λ t. get_or l.numbers t 0) l.terms)
