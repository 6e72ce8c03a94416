use Rattle.std.proofs.Common.{◌≡◌, ◌<◌, ◌++◌, length, map}
use Rattle.leo_terms.specs.Contents.{type_at}
use Rattle.leo_clause.specs.Typed.{AreTypesOf}
use Rattle.leo_unify.specs.Acts.{domains}
use Rattle.leo_unify.proofs.heads.domains.Given as goal

abbrev pub invariant-loop-function : goal.invariant-loop-function
invariant-loop-function l =
    (l.part < length l.bank.types) ×
    AreTypesOf l.bank l.taken ×
    (map (type_at l.bank) l.taken ++ domains (type_at l.bank l.part) ≡ domains (type_at l.bank l.fn.ty))

abbrev pub decreases-loop-function : goal.decreases-loop-function
decreases-loop-function l = l.part
