use Rattle.std.proofs.Common.{◌≡◌, map, nat_eq, drop}
use Rattle.leo_clause.specs.Arranging.{firsts}
use Rattle.leo_clause.specs.Trees.{literal_at}
use Rattle.leo_derive.specs.Symbols.{AreCollected, symbols_in_literals}
use Rattle.leo_derive.proofs.symbols.meet_lits.Given as goal

abbrev pub invariant-loop-lit : goal.invariant-loop-lit
invariant-loop-lit l = AreCollected l.bank l.visited.keys l.symbols.keys
    × (firsts nat_eq l.symbols.keys (symbols_in_literals (map (literal_at l.bank) (drop l.lit-index l.lits))) ≡ firsts nat_eq l.fn.symbols.keys (symbols_in_literals (map (literal_at l.bank) l.lits)))
