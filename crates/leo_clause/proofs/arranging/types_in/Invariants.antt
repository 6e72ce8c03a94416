use Rattle.std.proofs.Common.{◌≡◌, map, take, slice_get, Some}
use Rattle.leo_clause.proofs.arranging.types_in.Given as goal

abbrev pub invariant-loop-place : goal.invariant-loop-place
invariant-loop-place l = map Some l.types ≡ take l.place (map (slice_get l.vars) l.order.keys)
