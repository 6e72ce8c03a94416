use Rattle.std.proofs.Common.{refl}
use Rattle.leo_terms.proofs.CallerLemmas.{extends-itself, extends-trans}
use Rattle.leo_clause.specs.Trees.{clause_at}
use Rattle.leo_conclude.proofs.Concluded.{clause-grows, constraints-grow, none-concluded, sigma-there, solution-next, solution-there}
use Rattle.leo_conclude.proofs.concluding.concluded_all.Goals as goal

pub loop-sigma-init : goal.loop-sigma-init
loop-sigma-init c = (extends-itself c.is_sound.ensures.sound, rw c.new-found.ensures (none-concluded c.args.bank.now (clause_at c.args.bank.now c.args.clause.now), refl))

pub concluded-requires-clause-clause : goal.concluded-requires-clause-clause
concluded-requires-clause-clause c = clause-grows c.loop-sigma.invariant.0 c.args.clause.now c.requires.clause

pub concluded-requires-clause-constraints : goal.concluded-requires-clause-constraints
concluded-requires-clause-constraints c = constraints-grow c.loop-sigma.invariant.0 c.args.clause.now c.requires.clause c.args.constraints.now c.requires.constraints

pub concluded-requires-clause-sigma : goal.concluded-requires-clause-sigma
concluded-requires-clause-sigma c = sigma-there c.loop-sigma.invariant.0 c.args.clause.now c.requires.clause c.args.sigmas.now c.requires.sigmas c.loop-sigma.sigma-index c.sigma-item.result c.loop-sigma-test.true c.sigma-item.is

pub concluded-requires-clause-from : goal.concluded-requires-clause-from
concluded-requires-clause-from c = solution-there c.loop-sigma.invariant.0 c.args.clause.now c.requires.clause c.args.sigmas.now c.requires.sigmas c.loop-sigma.sigma-index c.sigma-item.result c.loop-sigma-test.true c.sigma-item.is c.requires.from

pub returns-in_err-next-clause-grows : goal.returns-in_err-next-clause-grows
returns-in_err-next-clause-grows c = extends-trans c.loop-sigma.invariant.0 c.concluded.ensures.grows

pub returns-in_err-push-clause-grows : goal.returns-in_err-push-clause-grows
returns-in_err-push-clause-grows c = extends-trans c.loop-sigma.invariant.0 c.concluded.ensures.grows

pub loop-sigma-preserved : goal.loop-sigma-preserved
loop-sigma-preserved c = (
  extends-trans c.loop-sigma.invariant.0 c.concluded.ensures.grows,
  rw c.in_ok-push.ensures.ok (solution-next c.loop-sigma.invariant.0 c.concluded.ensures.grows c.args.clause.now c.requires.clause c.args.constraints.now c.args.sigmas.now c.requires.sigmas c.loop-sigma.sigma-index c.sigma-item.result c.loop-sigma-test.true c.sigma-item.is c.loop-sigma.found c.in_ok-next.next c.loop-sigma.invariant.1.0 c.loop-sigma.invariant.1.1 c.in_ok-next.ensures.conclusion c.in_ok-next.ensures.clause),
)
