use Rattle.std.proofs.Common.{◌≡◌, ◌++◌, map, drop}
use Rattle.leo_terms.specs.Contents.{Extends, type_at}
use Rattle.leo_unify.specs.Acts.{binders, projections}
use Rattle.leo_unify.specs.Views.{binding_at, AreBindingsOf}
use Rattle.leo_unify.proofs.guesses.and_projections.Given as goal

abbrev pub invariant-loop-place : goal.invariant-loop-place
invariant-loop-place l =
    Extends l.initial.bank l.bank ×
    AreBindingsOf l.bank l.all ×
    (map (binding_at l.bank) l.all ++ projections l.frame.number (map (type_at l.initial.bank) l.frame.outer) l.frame.next (type_at l.initial.bank l.result_ty) (drop l.place (binders (map (type_at l.initial.bank) l.frame.outer))) ≡
    map (binding_at l.initial.bank) l.initial.all ++ projections l.frame.number (map (type_at l.initial.bank) l.frame.outer) l.frame.next (type_at l.initial.bank l.result_ty) (binders (map (type_at l.initial.bank) l.frame.outer)))
