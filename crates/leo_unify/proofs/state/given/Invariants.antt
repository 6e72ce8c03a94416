use Rattle.std.proofs.Common.{◌≡◌, ◌++◌, map, drop}
use Rattle.leo_terms.specs.Contents.{Extends, AreTerms, tree_at, type_at}
use Rattle.leo_unify.specs.Search.{given_from}
use Rattle.leo_unify.proofs.state.given.Given as goal

abbrev pub invariant-loop-place : goal.invariant-loop-place
invariant-loop-place l =
    Extends l.initial.bank l.bank ×
    AreTerms l.bank l.given.items ×
    (map (tree_at l.bank) l.given.items ++ given_from l.number (tree_at l.initial.bank l.term) l.place (drop l.place (map (type_at l.initial.bank) l.vars)) ≡ given_from l.number (tree_at l.initial.bank l.term) 0 (map (type_at l.initial.bank) l.vars))
