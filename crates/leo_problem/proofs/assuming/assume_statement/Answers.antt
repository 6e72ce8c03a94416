use Rattle.std.proofs.Common.{ap, sym}
use Rattle.std.proofs.lemmas.Result.{err_from_is_err_and}
use Rattle.leo_terms.proofs.CallerLemmas.{extends-itself}
use Rattle.leo_elab.specs.Table.{declared_in}
use Rattle.leo_problem.specs.declared.loaded.Hyp.{Hyp}
use Rattle.leo_problem.specs.Theories.{is_formula}
use Rattle.leo_problem.proofs.Assumed.{with-formula, closed-with, without-formula, offends-there}
use Rattle.leo_problem.proofs.assuming.assume_statement.Goals as goal

pub returns-in_err-term-in-Formula-clause-refusal : goal.returns-in_err-term-in-Formula-clause-refusal
returns-in_err-term-in-Formula-clause-refusal c =
    let p = err_from_is_err_and c.from_residual.result c.from_residual.ensures.1 in
    rw (p.1, p.2) (λ n. offends-there c.args.one.now c.in-Formula.is (rw c.as_slice-in-Formula.ensures at (c.in_err-term-in-Formula.ensures.refusal n)))

pub returns-in_ok-push-in-Formula-clause-closed : goal.returns-in_ok-push-in-Formula-clause-closed
returns-in_ok-push-in-Formula-clause-closed c =
    closed-with c.args.found.now c.assume_tree.ensures.grows c.requires.closed c.in_ok-next-in-Formula.next c.in_ok-term-in-Formula.term (ap (λ (h : Hyp). h.term) c.in_ok-next-in-Formula.ensures)
    c.in_ok-term-in-Formula.ensures.closed c.in_ok-push-in-Formula.ensures.ok

pub returns-in_ok-push-in-Formula-clause-assumes : goal.returns-in_ok-push-in-Formula-clause-assumes
returns-in_ok-push-in-Formula-clause-assumes c =
    with-formula c.args.one.now c.args.found.now c.assume_tree.ensures.grows c.requires.closed c.in_ok-next-in-Formula.next c.in-Formula.is (sym (rw c.as_slice.ensures at c.in-Some.ensures))
    (rw (c.as_slice-in-Formula-2.ensures, c.as_slice-in-Formula-3.ensures) at c.in_ok-next-in-Formula.ensures) c.in_ok-term-in-Formula.ensures.means c.in_ok-push-in-Formula.ensures.ok

pub returns-in-Typing-clause-assumes : goal.returns-in-Typing-clause-assumes
returns-in-Typing-clause-assumes c = without-formula c.args.bank.now (declared_in c.args.bank.now c.args.names.now) c.args.one.now c.args.found.now (ap is_formula c.in-Typing.is)

pub returns-in-Typing-clause-grows : goal.returns-in-Typing-clause-grows
returns-in-Typing-clause-grows c = extends-itself c.is_sound.ensures.sound

pub returns-in-Include-clause-assumes : goal.returns-in-Include-clause-assumes
returns-in-Include-clause-assumes c = without-formula c.args.bank.now (declared_in c.args.bank.now c.args.names.now) c.args.one.now c.args.found.now (ap is_formula c.in-Include.is)

pub returns-in-Include-clause-grows : goal.returns-in-Include-clause-grows
returns-in-Include-clause-grows c = extends-itself c.is_sound.ensures.sound
