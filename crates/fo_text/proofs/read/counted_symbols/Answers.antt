use Rattle.std.proofs.lemmas.Result.{err_from_is_err_and}
use Rattle.std.specs.List.{flat_map}
use Rattle.fo_text.specs.Problems.{IsSymbol, AreSyms}
use Rattle.fo_text.specs.Spellings.{syms_text, symbol_text, field_text, syms_word}
use Rattle.fo_text.specs.Pieces.{IsBetween, AreMany}
use Rattle.fo_text.proofs.Composing.{stop-behind}
use Rattle.fo_text.proofs.ProblemReading.{syms-count-stop, syms-list-stop}
use Rattle.fo_text.proofs.read.counted_symbols.Goals as goal

pub returns-in_err-count-clause-refused : goal.returns-in_err-count-clause-refused
returns-in_err-count-clause-refused c =
    let p = err_from_is_err_and c.from_residual.result c.from_residual.ensures.1 in
    let a = c.args in
    rw (p.1, p.2) (stop-behind (AreSyms a.sorts) syms_text (IsBetween 0 c.most_if.result) (field_text syms_word) a.input.now a.input.now (λ k r. syms-count-stop a.sorts c.most_if.result a.input.now k c.most_if.ensures r) c.in_err-count.field-0.0 c.in_err-count.ensures.refused)

pub returns-in_err-syms-clause-refused : goal.returns-in_err-syms-clause-refused
returns-in_err-syms-clause-refused c =
    let p = err_from_is_err_and c.from_residual-in_err-syms.result c.from_residual-in_err-syms.ensures.1 in
    let a = c.args in
    let n = c.in_ok-count.count in
    rw (p.1, p.2) (stop-behind (AreSyms a.sorts) syms_text (AreMany (IsSymbol a.sorts) n) (flat_map symbol_text) a.input.now c.in_ok-count.behind.now
    (λ k r. syms-list-stop a.sorts c.most_if.result n a.input.now c.in_ok-count.behind.now k c.most_if.ensures c.in_ok-count.ensures.read.0.1 c.in_ok-count.ensures.read.1 r) c.in_err-syms.field-0.0 c.in_err-syms.ensures.refused)
