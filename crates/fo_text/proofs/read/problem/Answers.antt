use Rattle.std.proofs.lemmas.Result.{err_from_is_err_and}
use Rattle.fo_text.specs.Words.{most_number}
use Rattle.fo_text.specs.Problems.{AreSyms, AreClauses, IsProblem}
use Rattle.fo_text.specs.Spellings.{turns_word, weight_word, sorts_word, end_word, field_text, syms_text, clauses_text, problem_text}
use Rattle.fo_text.specs.Pieces.{IsBetween, IsKeyword, keyword_text}
use Rattle.fo_text.proofs.Composing.{stop-behind}
use Rattle.fo_text.proofs.ProblemReading.{Head, stop_0, stop_1, stop_2, stop_3, stop_4, stop_5}
use Rattle.fo_text.proofs.read.problem.Goals as goal

pub returns-in_err-turns-clause-refused : goal.returns-in_err-turns-clause-refused
returns-in_err-turns-clause-refused c =
    let p = err_from_is_err_and c.from_residual.result c.from_residual.ensures.1 in
    rw (p.1, p.2) (stop-behind IsProblem problem_text (IsBetween 1 most_number) (field_text turns_word) c.args.input.now c.args.input.now (stop_0 c.args.input.now) c.in_err-turns.field-0.0 c.in_err-turns.ensures.refused)

pub returns-in_err-weight-clause-refused : goal.returns-in_err-weight-clause-refused
returns-in_err-weight-clause-refused c =
    let p = err_from_is_err_and c.from_residual-in_err-weight.result c.from_residual-in_err-weight.ensures.1 in
    let t = c.in_ok-turns.ensures.read in
    rw (p.1, p.2) (stop-behind IsProblem problem_text (IsBetween 1 most_number) (field_text weight_word) c.args.input.now c.in_ok-turns.one.now (λ k r. stop_1 c.in_ok-turns.turns t.0 c.args.input.now c.in_ok-turns.one.now k t.1 r) c.in_err-weight.field-0.0 c.in_err-weight.ensures.refused)

pub returns-in_err-sorts-clause-refused : goal.returns-in_err-sorts-clause-refused
returns-in_err-sorts-clause-refused c =
    let p = err_from_is_err_and c.from_residual-in_err-sorts.result c.from_residual-in_err-sorts.ensures.1 in
    let t = c.in_ok-turns.ensures.read in
    let w = c.in_ok-weight.ensures.read in
    rw (p.1, p.2) (stop-behind IsProblem problem_text (IsBetween 0 most_number) (field_text sorts_word) c.args.input.now c.in_ok-weight.two.now (λ k r. stop_2 c.in_ok-turns.turns c.in_ok-weight.weight t.0 w.0 c.args.input.now c.in_ok-turns.one.now c.in_ok-weight.two.now k t.1 w.1 r) c.in_err-sorts.field-0.0 c.in_err-sorts.ensures.refused)

pub returns-in_err-syms-clause-refused : goal.returns-in_err-syms-clause-refused
returns-in_err-syms-clause-refused c =
    let p = err_from_is_err_and c.from_residual-in_err-syms.result c.from_residual-in_err-syms.ensures.1 in
    let t = c.in_ok-turns.ensures.read in
    let w = c.in_ok-weight.ensures.read in
    let s = c.in_ok-sorts.ensures.read in
    let h : Head c.in_ok-turns.turns c.in_ok-weight.weight c.in_ok-sorts.sorts c.args.input.now c.in_ok-sorts.three.now = record { turns = t.0; weight = w.0; sorts = s.0.1; one = c.in_ok-turns.one.now; two = c.in_ok-weight.two.now; at_turns = t.1; at_weight = w.1; at_sorts = s.1 } in
    rw (p.1, p.2) (stop-behind IsProblem problem_text (AreSyms c.in_ok-sorts.sorts) syms_text c.args.input.now c.in_ok-sorts.three.now (λ k r. stop_3 c.in_ok-turns.turns c.in_ok-weight.weight c.in_ok-sorts.sorts c.args.input.now c.in_ok-sorts.three.now k h r) c.in_err-syms.field-0.0 c.in_err-syms.ensures.refused)

pub returns-in_err-clauses-clause-refused : goal.returns-in_err-clauses-clause-refused
returns-in_err-clauses-clause-refused c =
    let p = err_from_is_err_and c.from_residual-in_err-clauses.result c.from_residual-in_err-clauses.ensures.1 in
    let t = c.in_ok-turns.ensures.read in
    let w = c.in_ok-weight.ensures.read in
    let s = c.in_ok-sorts.ensures.read in
    let h : Head c.in_ok-turns.turns c.in_ok-weight.weight c.in_ok-sorts.sorts c.args.input.now c.in_ok-sorts.three.now = record { turns = t.0; weight = w.0; sorts = s.0.1; one = c.in_ok-turns.one.now; two = c.in_ok-weight.two.now; at_turns = t.1; at_weight = w.1; at_sorts = s.1 } in
    let ys = c.in_ok-syms.syms in
    rw (p.1, p.2) (stop-behind IsProblem problem_text (AreClauses c.in_ok-sorts.sorts ys) clauses_text c.args.input.now c.in_ok-syms.four.now (λ k r. stop_4 c.in_ok-turns.turns c.in_ok-weight.weight c.in_ok-sorts.sorts ys c.args.input.now c.in_ok-sorts.three.now c.in_ok-syms.four.now k h c.in_ok-syms.ensures.syms c.in_ok-syms.ensures.read r) c.in_err-clauses.field-0.0 (rw c.as_slice.ensures at c.in_err-clauses.ensures.refused))

pub returns-in_err-rest-clause-refused : goal.returns-in_err-rest-clause-refused
returns-in_err-rest-clause-refused c =
    let p = err_from_is_err_and c.from_residual-in_err-rest.result c.from_residual-in_err-rest.ensures.1 in
    let t = c.in_ok-turns.ensures.read in
    let w = c.in_ok-weight.ensures.read in
    let s = c.in_ok-sorts.ensures.read in
    let h : Head c.in_ok-turns.turns c.in_ok-weight.weight c.in_ok-sorts.sorts c.args.input.now c.in_ok-sorts.three.now = record { turns = t.0; weight = w.0; sorts = s.0.1; one = c.in_ok-turns.one.now; two = c.in_ok-weight.two.now; at_turns = t.1; at_weight = w.1; at_sorts = s.1 } in
    let ys = c.in_ok-syms.syms in
    let cs = c.in_ok-clauses.clauses in
    rw (p.1, p.2) (stop-behind IsProblem problem_text IsKeyword (keyword_text end_word) c.args.input.now c.in_ok-clauses.five.now (λ k r. stop_5 c.in_ok-turns.turns c.in_ok-weight.weight c.in_ok-sorts.sorts ys cs c.args.input.now c.in_ok-sorts.three.now c.in_ok-syms.four.now c.in_ok-clauses.five.now k h c.in_ok-syms.ensures.syms (rw c.as_slice.ensures at c.in_ok-clauses.ensures.clauses) c.in_ok-syms.ensures.read c.in_ok-clauses.ensures.read r) c.in_err-rest.field-0.0 c.in_err-rest.ensures.refused)
