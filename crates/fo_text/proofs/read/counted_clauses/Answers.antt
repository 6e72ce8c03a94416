use Rattle.std.proofs.lemmas.Result.{err_from_is_err_and}
use Rattle.std.specs.List.{flat_map}
use Rattle.fo_text.specs.Words.{most_number}
use Rattle.fo_text.specs.Problems.{IsClause, AreClauses}
use Rattle.fo_text.specs.Spellings.{clauses_text, clause_text, field_text, clauses_word}
use Rattle.fo_text.specs.Pieces.{IsBetween, AreMany}
use Rattle.fo_text.proofs.Composing.{stop-behind}
use Rattle.fo_text.proofs.ProblemReading.{clauses-count-stop, clauses-list-stop}
use Rattle.fo_text.proofs.read.counted_clauses.Goals as goal

pub returns-in_err-count-clause-refused : goal.returns-in_err-count-clause-refused
returns-in_err-count-clause-refused c =
    let p = err_from_is_err_and c.from_residual.result c.from_residual.ensures.1 in
    let a = c.args in
    rw (p.1, p.2) (stop-behind (AreClauses a.sorts a.syms.now) clauses_text (IsBetween 0 most_number) (field_text clauses_word) a.input.now a.input.now (λ k r. clauses-count-stop a.sorts a.syms.now a.input.now k r) c.in_err-count.field-0.0 c.in_err-count.ensures.refused)

pub returns-in_err-list-clause-refused : goal.returns-in_err-list-clause-refused
returns-in_err-list-clause-refused c =
    let p = err_from_is_err_and c.from_residual-in_err-list.result c.from_residual-in_err-list.ensures.1 in
    let a = c.args in
    let n = c.in_ok-count.count in
    rw (p.1, p.2) (stop-behind (AreClauses a.sorts a.syms.now) clauses_text (AreMany (IsClause a.sorts a.syms.now) n) (flat_map clause_text) a.input.now c.in_ok-count.behind.now
    (λ k r. clauses-list-stop a.sorts a.syms.now n a.input.now c.in_ok-count.behind.now k c.in_ok-count.ensures.read.0.1 c.in_ok-count.ensures.read.1 r) c.in_err-list.field-0.0 c.in_err-list.ensures.refused)
