use Rattle.std.proofs.Common.{◌≡◌, ◌+◌, drop}
use Rattle.leo_clause.specs.Arranging.{place_in}
use Rattle.leo_unify.proofs.cover.place_of.Given as goal

abbrev pub invariant-loop-place : goal.invariant-loop-place
invariant-loop-place l = place_in l.order l.number ≡ l.place + place_in (drop l.place l.order) l.number
