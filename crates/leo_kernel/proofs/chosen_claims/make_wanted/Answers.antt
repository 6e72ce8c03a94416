use Rattle.leo_terms.proofs.CallerLemmas.{extends-trans}
use Rattle.leo_kernel.proofs.ChosenMaking.{wanted-made}
use Rattle.leo_kernel.proofs.chosen_claims.make_wanted.Goals as goal

pub returns-in_err-form-clause-grows : goal.returns-in_err-form-clause-grows
returns-in_err-form-clause-grows c = extends-trans c.make_chosen.ensures.grows c.normal.ensures.grows

pub returns-clause-made : goal.returns-clause-made
returns-clause-made c = wanted-made c.make_chosen.ensures.grows c.normal.ensures.grows c.args.claim.now c.requires c.type_of_claim-ty.result c.in_ok-term.term c.in_ok-form.form c.type_of_claim-ty.ensures c.in_ok-term.ensures.made c.in_ok-form.ensures.made

pub returns-clause-grows : goal.returns-clause-grows
returns-clause-grows c = extends-trans c.make_chosen.ensures.grows c.normal.ensures.grows
