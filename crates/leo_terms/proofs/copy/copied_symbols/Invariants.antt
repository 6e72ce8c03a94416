use Rattle.std.proofs.Common.{◌≡◌, map, take}
use Rattle.leo_terms.specs.SymbolView.{symbol_of}
use Rattle.leo_terms.proofs.copy.copied_symbols.Given as goal

abbrev pub invariant-loop-symbol : goal.invariant-loop-symbol
invariant-loop-symbol l = map symbol_of l.copy.items ≡ take l.symbol-index (map symbol_of l.symbols)
