use Rattle.leo_terms.proofs.CallerLemmas.{extends-trans}
use Rattle.leo_kernel.specs.ChosenClaims.{claim_at}
use Rattle.leo_kernel.proofs.ChosenGrowing.{fits-wanted}
use Rattle.leo_kernel.proofs.chosen.fits_claim.Goals as goal

pub returns-in_err-fit-clause-grows : goal.returns-in_err-fit-clause-grows
returns-in_err-fit-clause-grows c = extends-trans c.make_wanted.ensures.grows c.fits.ensures.grows

pub returns-clause-value : goal.returns-clause-value
returns-clause-value c = fits-wanted c.make_wanted.ensures.grows (claim_at c.args.bank.now c.args.claim.now) c.in_ok-wanted.wanted c.in_ok-wanted.ensures.made c.args.t c.requires.within c.in_ok-fit.fit c.in_ok-fit.ensures.value

pub returns-clause-grows : goal.returns-clause-grows
returns-clause-grows c = extends-trans c.make_wanted.ensures.grows c.fits.ensures.grows
