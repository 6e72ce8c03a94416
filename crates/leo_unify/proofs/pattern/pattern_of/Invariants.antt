use Rattle.std.proofs.Common.{◌≡◌, ◌<◌, length, map}
use Rattle.leo_terms.specs.Contents.{Extends, tree_at, type_at}
use Rattle.leo_clause.specs.Typed.{AreTypesOf}
use Rattle.leo_unify.specs.Patterns.{pattern_before, pattern_of}
use Rattle.leo_unify.proofs.pattern.pattern_of.Given as goal

abbrev pub invariant-loop-number : goal.invariant-loop-number
invariant-loop-number l =
    Extends l.initial.bank l.bank ×
    (l.part < length l.bank.terms) ×
    AreTypesOf l.bank l.types ×
    (pattern_before l.order (map (type_at l.bank) l.types) (tree_at l.bank l.part) ≡ pattern_of (tree_at l.initial.bank l.fn.t))

abbrev pub decreases-loop-number : goal.decreases-loop-number
decreases-loop-number l = l.part
