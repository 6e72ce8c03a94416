use Rattle.leo_terms.specs.SymbolView.{symbol_of}
use Rattle.leo_terms.proofs.ListLemmas.{map-next}
use Rattle.leo_terms.proofs.copy.copied_symbols.Goals as goal

pub loop-symbol-preserved : goal.loop-symbol-preserved
loop-symbol-preserved c = rw c.in_ok-push.ensures.items (map-next symbol_of c.args.symbols.now c.loop-symbol.copy.items c.loop-symbol.symbol-index c.symbol-item.result c.in_ok-symbol.symbol c.loop-symbol-test.true c.symbol-item.is c.loop-symbol.invariant c.in_ok-symbol.ensures)
