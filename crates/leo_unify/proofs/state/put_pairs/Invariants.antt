use Rattle.std.proofs.Common.{map, take}
use Rattle.leo_terms.specs.Contents.{Extends, tree_at}
use Rattle.leo_unify.specs.Contexts.{ArePutPairs}
use Rattle.leo_unify.specs.Views.{pair_at, ArePairsOf}
use Rattle.leo_unify.proofs.state.put_pairs.Given as goal

abbrev pub invariant-loop-pair : goal.invariant-loop-pair
invariant-loop-pair l =
    Extends l.initial.bank l.bank ×
    ArePairsOf l.bank l.out ×
    ArePutPairs (map (tree_at l.initial.bank) l.given) (take l.pair-index (map (pair_at l.initial.bank) l.pairs)) (map (pair_at l.bank) l.out)
