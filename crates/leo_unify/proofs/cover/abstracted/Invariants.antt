use Rattle.std.proofs.Common.{◌≡◌, ◌<◌, length, map, drop}
use Rattle.leo_terms.specs.Contents.{Extends, tree_at, type_at}
use Rattle.leo_unify.specs.Patterns.{abstracted}
use Rattle.leo_unify.specs.Views.{AreBodyTypes}
use Rattle.leo_unify.proofs.cover.abstracted.Given as goal

abbrev pub invariant-loop-ty : goal.invariant-loop-ty
invariant-loop-ty l =
    Extends l.initial.bank l.bank ×
    (l.t < length l.bank.terms) ×
    AreBodyTypes (drop l.ty-index (map (type_at l.initial.bank) l.types)) (tree_at l.bank l.t) ×
    (abstracted (drop l.ty-index (map (type_at l.initial.bank) l.types)) (tree_at l.bank l.t) ≡ abstracted (map (type_at l.initial.bank) l.types) (tree_at l.initial.bank l.fn.body))
