use Rattle.std.proofs.Common.{map, take}
use Rattle.leo_terms.specs.Contents.{Extends, AreTerms, tree_at}
use Rattle.leo_unify.specs.Contexts.{ArePutTrees}
use Rattle.leo_unify.proofs.state.put_terms.Given as goal

abbrev pub invariant-loop-term : goal.invariant-loop-term
invariant-loop-term l =
    Extends l.initial.bank l.bank ×
    AreTerms l.bank l.out ×
    ArePutTrees (map (tree_at l.initial.bank) l.given) (take l.term-index (map (tree_at l.initial.bank) l.terms)) (map (tree_at l.bank) l.out)
