use Rattle.std.proofs.Common.{arith, ◌<◌, length}
use Rattle.std.proofs.lemmas.Result.{err_from_is_err_and}
use Rattle.std.specs.List.{flat_map}
use Rattle.fo_text.specs.Problems.{IsSymbol}
use Rattle.fo_text.specs.Spellings.{symbol_text}
use Rattle.fo_text.specs.Pieces.{AreMany}
use Rattle.fo_text.proofs.Composing.{stop-behind, refuses-same, refuses-item}
use Rattle.fo_text.proofs.SymbolLines.{symbol-code}
use Rattle.fo_text.proofs.symbols.symbols.Goals as goal

pub returns-in_err-sym-clause-refused : goal.returns-in_err-sym-clause-refused
returns-in_err-sym-clause-refused c =
    let p = err_from_is_err_and c.from_residual.result c.from_residual.ensures.1 in
    let a = c.args in
    let more : length c.loop.list < a.count = (let h = c.loop.invariant.2 in let t = c.loop-test.true in omega arith) in
    rw (p.1, p.2) (stop-behind (AreMany (IsSymbol a.sorts) a.count) (flat_map symbol_text) (IsSymbol a.sorts) symbol_text a.input.now c.loop.rest.now
    (λ left r. refuses-same (AreMany (IsSymbol a.sorts) a.count) (flat_map symbol_text) a.input.now _ left c.loop.invariant.0
    (refuses-item (IsSymbol a.sorts) symbol_text (symbol-code a.sorts c.requires.few) a.count c.loop.list c.loop.rest.now left c.loop.invariant.1 more r))
    c.in_err-sym.field-0.0 c.in_err-sym.ensures.refused)
