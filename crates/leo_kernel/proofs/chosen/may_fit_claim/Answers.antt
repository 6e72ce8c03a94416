use Rattle.leo_terms.proofs.CallerLemmas.{extends-trans}
use Rattle.leo_kernel.specs.ChosenClaims.{claim_at}
use Rattle.leo_kernel.proofs.ChosenGrowing.{may-fit-wanted}
use Rattle.leo_kernel.proofs.Growing.{types-grow}
use Rattle.leo_kernel.proofs.chosen.may_fit_claim.Goals as goal

pub may_fit-requires-clause-vars : goal.may_fit-requires-clause-vars
may_fit-requires-clause-vars c = types-grow c.make_wanted.ensures.grows c.args.vars.now c.requires.vars

pub returns-in_err-fit-clause-grows : goal.returns-in_err-fit-clause-grows
returns-in_err-fit-clause-grows c = extends-trans c.make_wanted.ensures.grows c.may_fit.ensures.grows

pub returns-clause-value : goal.returns-clause-value
returns-clause-value c = may-fit-wanted c.make_wanted.ensures.grows (claim_at c.args.bank.now c.args.claim.now) c.in_ok-wanted.wanted c.in_ok-wanted.ensures.made c.args.vars.now c.requires.vars c.args.t c.requires.within c.in_ok-fit.fit c.in_ok-fit.ensures.value

pub returns-clause-grows : goal.returns-clause-grows
returns-clause-grows c = extends-trans c.make_wanted.ensures.grows c.may_fit.ensures.grows
