use Rattle.std.proofs.Common.{map, ap, ◌∙◌}
use Rattle.std.proofs.lemmas.Result.{err_from_is_err_and}
use Rattle.std.specs.Prelude.{Err, Ok}
use Rattle.leo_terms.proofs.CallerLemmas.{extends-itself}
use Rattle.leo_kernel.specs.Steps.{line_at}
use Rattle.leo_derive.proofs.Falsity.{terms_of, verdict_of, falsity_derived}
use Rattle.leo_derive.proofs.checking.check.Goals as goal

pub returns-in_err-hyps-clause-grows : goal.returns-in_err-hyps-clause-grows
returns-in_err-hyps-clause-grows c = extends-itself c.is_sound.ensures.sound

pub check_lines-requires-clause-hypotheses : goal.check_lines-requires-clause-hypotheses
check_lines-requires-clause-hypotheses c = terms_of c.args.problem.now.bank c.args.problem.now.hyps c.deref.result.now (c.deref.ensures.value ∙ (c.in_ok-hyps.ensures ∙ ap (map (λ h. h.term)) c.as_slice.ensures)) c.requires.problem.closed

pub returns-in_err-check_lines-clause-verdict : goal.returns-in_err-check_lines-clause-verdict
returns-in_err-check_lines-clause-verdict c =
    let p = err_from_is_err_and c.from_residual-in_err-check_lines.result c.from_residual-in_err-check_lines.ensures.1 in
    rw (p.1, p.2) (verdict_of c.args.problem.now.bank c.args.problem.now.hyps c.deref.result.now (c.deref.ensures.value ∙ (c.in_ok-hyps.ensures ∙ ap (map (λ h. h.term)) c.as_slice.ensures)) (map (line_at c.args.problem.now.bank) c.args.lines.now) (Err c.in_err-check_lines.field-0.0) c.in_err-check_lines.ensures.verdict)

pub returns-clause-verdict : goal.returns-clause-verdict
returns-clause-verdict c =
    verdict_of c.args.problem.now.bank c.args.problem.now.hyps c.deref.result.now (c.deref.ensures.value ∙ (c.in_ok-hyps.ensures ∙ ap (map (λ h. h.term)) c.as_slice.ensures)) (map (line_at c.args.problem.now.bank) c.args.lines.now) (Ok tt) c.in_ok-check_lines.ensures.verdict

pub returns-clause-falsity : goal.returns-clause-falsity
returns-clause-falsity c =
    falsity_derived c.args.problem.now.bank c.args.problem.now.hyps c.deref.result.now (c.deref.ensures.value ∙ (c.in_ok-hyps.ensures ∙ ap (map (λ h. h.term)) c.as_slice.ensures)) c.soundness_laws.ensures.falsity c.bank_laws.ensures c.args.lines.now c.is_sound.ensures.sound c.requires.problem.closed c.requires.lines c.in_ok-check_lines.ensures.verdict
