use Rattle.std.proofs.Common.{arith, ◌-◌, ◌<◌, length}
use Rattle.std.proofs.lemmas.Result.{err_from_is_err_and}
use Rattle.fo_text.specs.Numbers.{IsNumberWord, number_word}
use Rattle.fo_text.specs.declared.number.Ends.TheVariants.{Space}
use Rattle.fo_text.specs.Clauses.{AreVars, vars_text}
use Rattle.fo_text.proofs.Composing.{stop-behind, refuses-same}
use Rattle.fo_text.proofs.ClauseReading.{vars-count-most, vars-next, vars_so_far, count_below}
use Rattle.fo_text.proofs.clauses.variables.Goals as goal

pub returns-in_err-count-clause-refused : goal.returns-in_err-count-clause-refused
returns-in_err-count-clause-refused c =
    let p = err_from_is_err_and c.from_residual.result c.from_residual.ensures.1 in
    let a = c.args in
    rw (p.1, p.2) (stop-behind (AreVars a.sorts) vars_text (IsNumberWord 0 c.most_if.result Space) number_word a.input.now a.input.now (λ k r. vars-count-most a.sorts c.most_if.result a.input.now k c.most_if.ensures r) c.in_err-count.field-0.0 c.in_err-count.ensures.refused)

pub returns-in_err-var-clause-refused : goal.returns-in_err-var-clause-refused
returns-in_err-var-clause-refused c =
    let p = err_from_is_err_and c.from_residual-in_err-var.result c.from_residual-in_err-var.ensures.1 in
    let a = c.args in
    let t = c.loop-test.true in
    let b = count_below a.sorts c.in_ok-count.count c.most_if.result c.most_if.ensures c.in_ok-count.ensures.read.not_above (omega arith) in
    let l : length c.loop.vars < c.in_ok-count.count = (let h = c.loop.invariant.2 in omega arith) in
    rw (p.1, p.2) (stop-behind (AreVars a.sorts) vars_text (IsNumberWord 0 (a.sorts - 1) Space) number_word a.input.now c.loop.rest.now
    (λ k r. refuses-same (AreVars a.sorts) vars_text a.input.now _ k (vars_so_far c.in_ok-count.count c.loop.vars a.input.now c.loop.rest.now c.loop.invariant.0)
    (vars-next a.sorts c.in_ok-count.count c.loop.vars c.loop.rest.now k b.0 c.requires.few b.1 l c.loop.invariant.1 r))
    c.in_err-var.field-0.0 c.in_err-var.ensures.refused)
