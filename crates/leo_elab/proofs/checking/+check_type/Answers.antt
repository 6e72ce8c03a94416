use Rattle.leo_elab.specs.Meaning as meaning
use Rattle.leo_elab.specs.Offences as offence
use Rattle.std.proofs.lemmas.Result.{err_from_is_err_and}
use Rattle.leo_elab.proofs.Tops.{arrow-top}
use Rattle.leo_elab.proofs.checking.+check_type.Goals as goal

pub returns-in_err-check_type-in-Arrow-clause-refusal : goal.returns-in_err-check_type-in-Arrow-clause-refusal
returns-in_err-check_type-in-Arrow-clause-refusal t c =
    let p = err_from_is_err_and c.from_residual-in_err-check_type-in-Arrow.result c.from_residual-in_err-check_type-in-Arrow.ensures.1 in
    rw (p.1, p.2) (λ n d s. offence.in_domain (arrow-top _ _ _ c.in-Arrow.is) (rw c.get.ensures at (c.in_err-check_type-in-Arrow.ensures.refusal n d s)))

pub returns-in_err-check_type-in-Arrow-2-clause-refusal : goal.returns-in_err-check_type-in-Arrow-2-clause-refusal
returns-in_err-check_type-in-Arrow-2-clause-refusal t c =
    let p = err_from_is_err_and c.from_residual-in_err-check_type-in-Arrow-2.result c.from_residual-in_err-check_type-in-Arrow-2.ensures.1 in
    rw (p.1, p.2) (λ n d s.
    let m = c.in_ok-check_type-in-Arrow.ensures.fine d s in
    offence.in_range (arrow-top _ _ _ c.in-Arrow.is) (rw c.get.ensures at m.means) (rw c.get-in-Arrow.ensures at (c.in_err-check_type-in-Arrow-2.ensures.refusal n d s)))

pub returns-in_ok-check_type-in-Arrow-2-clause-fine : goal.returns-in_ok-check_type-in-Arrow-2-clause-fine
returns-in_ok-check_type-in-Arrow-2-clause-fine t c = λ d s.
    let m = c.in_ok-check_type-in-Arrow.ensures.fine d s in
    let n = c.in_ok-check_type-in-Arrow-2.ensures.fine d s in
    record { type = _; means = meaning.functions (arrow-top _ _ _ c.in-Arrow.is) (rw c.get.ensures at m.means) (rw c.get-in-Arrow.ensures at n.means) }
