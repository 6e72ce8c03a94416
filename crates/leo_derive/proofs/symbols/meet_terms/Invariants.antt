use Rattle.std.proofs.Common.{◌≡◌, map, nat_eq, drop}
use Rattle.leo_clause.specs.Arranging.{firsts}
use Rattle.leo_terms.specs.Contents.{tree_at}
use Rattle.leo_derive.specs.Symbols.{AreCollected, symbols_in}
use Rattle.leo_derive.proofs.symbols.meet_terms.Given as goal

abbrev pub invariant-loop-t : goal.invariant-loop-t
invariant-loop-t l = AreCollected l.bank l.visited.keys l.symbols.keys
    × (firsts nat_eq l.symbols.keys (symbols_in (map (tree_at l.bank) (drop l.t-index l.terms))) ≡ firsts nat_eq l.fn.symbols.keys (symbols_in (map (tree_at l.bank) l.terms)))
