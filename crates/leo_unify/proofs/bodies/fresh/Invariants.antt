use Rattle.std.proofs.Common.{◌≡◌, ◌+◌, ◌++◌, map, take, drop}
use Rattle.leo_terms.specs.Contents.{Extends, AreTerms, tree_at, type_at}
use Rattle.leo_clause.specs.Typed.{AreTypesOf}
use Rattle.leo_unify.specs.Acts.{fresh_values, function_type}
use Rattle.leo_unify.proofs.bodies.fresh.Given as goal

abbrev pub invariant-loop-place : goal.invariant-loop-place
invariant-loop-place l =
    Extends l.initial.bank l.bank ×
    (l.number ≡ l.initial.number + l.place) ×
    AreTypesOf l.bank l.types ×
    (map (type_at l.bank) l.types ≡ take l.place (map (function_type (map (type_at l.initial.bank) l.frame.outer)) (map (type_at l.initial.bank) l.taken))) ×
    AreTerms l.bank l.values ×
    (map (tree_at l.bank) l.values ++ fresh_values (map (type_at l.initial.bank) l.frame.outer) (l.initial.number + l.place) (drop l.place (map (type_at l.initial.bank) l.taken)) ≡ fresh_values (map (type_at l.initial.bank) l.frame.outer) l.initial.number (map (type_at l.initial.bank) l.taken))
