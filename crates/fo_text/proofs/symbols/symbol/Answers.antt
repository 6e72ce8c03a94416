use Rattle.std.proofs.Common.{◌-◌, ◌<◌, arith}
use Rattle.std.proofs.lemmas.Result.{err_from_is_err_and}
use Rattle.fo_text.specs.Problems.{IsSymbol}
use Rattle.fo_text.specs.Spellings.{symbol_text}
use Rattle.fo_text.specs.Numbers.{IsNumberWord, number_word}
use Rattle.fo_text.specs.declared.number.Ends.TheVariants.{SpaceOrLine}
use Rattle.fo_text.proofs.Composing.{stop-behind, refuses-same}
use Rattle.fo_text.proofs.SymbolLines.{symbol-first, symbol-next, line_so_far}
use Rattle.fo_text.proofs.symbols.symbol.Goals as goal

pub returns-in_err-result_sort-clause-refused : goal.returns-in_err-result_sort-clause-refused
returns-in_err-result_sort-clause-refused c =
    let p = err_from_is_err_and c.from_residual.result c.from_residual.ensures.1 in
    let a = c.args in
    rw (p.1, p.2) (stop-behind (IsSymbol a.sorts) symbol_text (IsNumberWord 0 (a.sorts - 1) SpaceOrLine) number_word a.input.now a.input.now (λ left r. symbol-first a.sorts a.input.now left c.requires.some r) c.in_err-result_sort.field-0.0 c.in_err-result_sort.ensures.refused)

pub returns-in_err-arg-clause-refused : goal.returns-in_err-arg-clause-refused
returns-in_err-arg-clause-refused c =
    let p = err_from_is_err_and c.from_residual-in_err-arg.result c.from_residual-in_err-arg.ensures.1 in
    let a = c.args in
    let n = c.in_ok-result_sort.result_sort in
    let some : 0 < a.sorts = c.requires.some in
    let below : n < a.sorts = (let h = c.in_ok-result_sort.ensures.read.not_above in omega arith) in
    rw (p.1, p.2) (stop-behind (IsSymbol a.sorts) symbol_text (IsNumberWord 0 (a.sorts - 1) SpaceOrLine) number_word a.input.now c.in-Some.tail.now
    (λ left r. refuses-same (IsSymbol a.sorts) symbol_text a.input.now _ left (line_so_far n c.loop-tail.args c.in-Some.tail.now a.input.now c.loop-tail.rest.now c.loop-tail.invariant.0 c.in-Some.ensures)
    (symbol-next a.sorts n c.loop-tail.args c.in-Some.tail.now left some c.requires.few below c.loop-tail.invariant.1 r))
    c.in_err-arg.field-0.0 c.in_err-arg.ensures.refused)
