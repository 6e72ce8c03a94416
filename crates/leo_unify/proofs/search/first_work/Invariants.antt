use Rattle.std.proofs.Common.{◌≡◌, map, take, drop}
use Rattle.leo_terms.specs.Contents.{Extends}
use Rattle.leo_unify.specs.Search.{step_from, step_of}
use Rattle.leo_unify.specs.States.{state_at}
use Rattle.leo_unify.specs.Views.{pair_at}
use Rattle.leo_unify.proofs.search.first_work.Given as goal

abbrev pub invariant-loop-place : goal.invariant-loop-place
invariant-loop-place l =
    Extends l.initial.bank l.bank ×
    (step_of (state_at l.initial.bank l.state l.depth) ≡ step_from (state_at l.initial.bank l.state l.depth) (take l.place (map (pair_at l.initial.bank) l.state.pairs)) (drop l.place (map (pair_at l.initial.bank) l.state.pairs)))
