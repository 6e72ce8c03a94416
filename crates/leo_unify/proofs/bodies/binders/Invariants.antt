use Rattle.std.proofs.Common.{◌≡◌, ◌++◌, map, drop}
use Rattle.leo_terms.specs.Contents.{Extends, AreTerms, tree_at, type_at}
use Rattle.leo_unify.specs.Acts.{binders}
use Rattle.leo_unify.proofs.bodies.binders.Given as goal

abbrev pub invariant-loop-place : goal.invariant-loop-place
invariant-loop-place l =
    Extends l.initial.bank l.bank ×
    AreTerms l.bank l.binders ×
    (map (tree_at l.bank) l.binders ++ binders (drop l.place (map (type_at l.initial.bank) l.outer)) ≡ binders (map (type_at l.initial.bank) l.outer))
