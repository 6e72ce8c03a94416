use Rattle.std.proofs.lemmas.Result.{err_from_is_err_and}
use Rattle.leo_problem.specs.Theories as theories
use Rattle.leo_problem.proofs.theory.check_roles.Goals as goal

pub returns-in_err-check_listed-clause-refusal : goal.returns-in_err-check_listed-clause-refusal
returns-in_err-check_listed-clause-refusal c =
    let p = err_from_is_err_and c.from_residual.result c.from_residual.ensures.1 in
    rw (p.1, p.2) (λ n. theories.bad_role (c.in_err-check_listed.ensures.refusal n))

pub returns-in_err-conjecture-clause-refusal : goal.returns-in_err-conjecture-clause-refusal
returns-in_err-conjecture-clause-refusal c =
    let p = err_from_is_err_and c.from_residual-in_err-conjecture.result c.from_residual-in_err-conjecture.ensures.1 in
    rw (p.1, p.2) (λ n. let s = c.in_err-conjecture.ensures.refusal n in rw (s.refusal) (theories.second_conjecture c.in_ok-check_listed.ensures.listed s.stands))
