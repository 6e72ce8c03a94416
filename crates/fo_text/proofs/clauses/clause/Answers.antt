use Rattle.std.proofs.lemmas.Result.{err_from_is_err_and}
use Rattle.fo_text.specs.Problems.{IsClause}
use Rattle.fo_text.specs.Spellings.{clause_text}
use Rattle.fo_text.specs.Clauses.{AreVars, vars_text, AreLits, lits_text}
use Rattle.fo_text.proofs.Composing.{stop-behind, refuses-same}
use Rattle.fo_text.proofs.ClauseReading.{clause-vars, clause-lits}
use Rattle.fo_text.proofs.clauses.clause.Goals as goal

pub returns-in_err-vars-clause-refused : goal.returns-in_err-vars-clause-refused
returns-in_err-vars-clause-refused c =
    let p = err_from_is_err_and c.from_residual.result c.from_residual.ensures.1 in
    let a = c.args in
    rw (p.1, p.2) (stop-behind (IsClause a.sorts a.syms.now) clause_text (AreVars a.sorts) vars_text a.input.now a.input.now (λ k r. clause-vars a.sorts a.syms.now a.input.now k r) c.in_err-vars.field-0.0 c.in_err-vars.ensures.refused)

pub returns-in_err-lits-clause-refused : goal.returns-in_err-lits-clause-refused
returns-in_err-lits-clause-refused c =
    let p = err_from_is_err_and c.from_residual-in_err-lits.result c.from_residual-in_err-lits.ensures.1 in
    let a = c.args in
    let vs = c.in_ok-vars.vars in
    rw (p.1, p.2) (stop-behind (IsClause a.sorts a.syms.now) clause_text (AreLits vs a.syms.now) lits_text a.input.now c.in_ok-vars.behind.now
    (λ k r. refuses-same (IsClause a.sorts a.syms.now) clause_text a.input.now _ k c.in_ok-vars.ensures.read (clause-lits a.sorts a.syms.now vs c.in_ok-vars.behind.now k c.requires.sorts c.in_ok-vars.ensures.vars r))
    c.in_err-lits.field-0.0 (rw c.as_slice.ensures at c.in_err-lits.ensures.refused))
