use Rattle.std.proofs.Common.{sym, subst}
use Rattle.fo_text.specs.Nodes.{AreMarks}
use Rattle.fo_text.specs.Reads.{IsStop}
use Rattle.fo_text.specs.Clauses.{AreLits, lits_text}
use Rattle.fo_text.proofs.ProblemReading.{if_err_apply}
use Rattle.fo_text.proofs.clauses.exact_literals.Goals as goal

pub returns-in_ok-usable-in-Err-At-clause-refused : goal.returns-in_ok-usable-in-Err-At-clause-refused
returns-in_ok-usable-in-Err-At-clause-refused c =
    let a = c.args in
    let m = subst (AreMarks a.vars.now a.syms.now) (sym c.deref.ensures.value) c.in_ok-usable-in-Err-At.ensures in
    if_err_apply (IsStop (AreLits a.vars.now a.syms.now) lits_text a.input.now) (AreMarks a.vars.now a.syms.now c.deref.result.now) c.literals-in-Err-At.result m c.literals-in-Err-At.ensures.refused
