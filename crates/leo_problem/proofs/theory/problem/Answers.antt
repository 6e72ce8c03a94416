use Rattle.std.proofs.lemmas.Result.{err_from_is_err_and}
use Rattle.leo_elab.proofs.Places.{declared-kept}
use Rattle.leo_problem.specs.Theories as theories
use Rattle.leo_problem.proofs.Assumed.{says-theory}
use Rattle.leo_problem.proofs.theory.problem.Goals as goal

pub returns-in_err-names-clause-refusal : goal.returns-in_err-names-clause-refusal
returns-in_err-names-clause-refusal c =
    let p = err_from_is_err_and c.from_residual-in_err-names.result c.from_residual-in_err-names.ensures.1 in
    rw (p.1, p.2) (λ n. let s = c.in_err-names.ensures.refusal n in rw (s.refusal) (theories.bad_typing c.in_ok-conjecture.ensures.roles s.offends s.stands))

pub returns-in_err-hyps-clause-refusal : goal.returns-in_err-hyps-clause-refusal
returns-in_err-hyps-clause-refusal c =
    let p = err_from_is_err_and c.from_residual-in_err-hyps.result c.from_residual-in_err-hyps.ensures.1 in
    rw (p.1, p.2) (λ n. theories.bad_formula c.in_ok-conjecture.ensures.roles c.in_ok-names.ensures.declares (c.in_err-hyps.ensures.refusal n))

pub returns-clause-problem : goal.returns-clause-problem
returns-clause-problem c = record { names = (declared-kept c.hypotheses.ensures.grows c.in_ok-names.names c.in_ok-names.ensures.names).1; closed = c.in_ok-hyps.ensures.closed }

pub returns-clause-says : goal.returns-clause-says
returns-clause-says c =
    let k = declared-kept c.hypotheses.ensures.grows c.in_ok-names.names c.in_ok-names.ensures.names in
    says-theory c.args.kept.now (record { bank = c.hypotheses.new.bank; names = c.in_ok-names.names; hyps = c.in_ok-hyps.hyps; conjecture = c.in_ok-conjecture.conjecture; statements = c.in-Ok.statements })
    c.in_ok-conjecture.ensures.roles c.in_ok-names.ensures.declares c.in_ok-hyps.ensures.hypotheses k.0 c.in_ok-conjecture.ensures.found c.in-Ok.ensures.1
