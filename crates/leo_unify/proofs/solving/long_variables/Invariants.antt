use Rattle.std.proofs.Common.{◌≡◌, ◌++◌, map, drop}
use Rattle.leo_terms.specs.Contents.{Extends, AreTerms, tree_at, type_at}
use Rattle.leo_unify.specs.Search.{long_variables}
use Rattle.leo_unify.proofs.solving.long_variables.Given as goal

abbrev pub invariant-loop-place : goal.invariant-loop-place
invariant-loop-place l =
    Extends l.initial.bank l.bank ×
    AreTerms l.bank l.terms ×
    (map (tree_at l.bank) l.terms ++ long_variables l.place (drop l.place (map (type_at l.initial.bank) l.vars)) ≡ long_variables 0 (map (type_at l.initial.bank) l.vars))
