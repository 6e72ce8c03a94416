use Rattle.std.proofs.Common.{◌≡◌, map, take}
use Rattle.leo_unify.specs.Given.{as_pair}
use Rattle.leo_unify.proofs.solving.as_pairs.Given as goal

abbrev pub invariant-loop-place : goal.invariant-loop-place
invariant-loop-place l = l.out ≡ take l.place (map as_pair l.pairs)
