use Rattle.leo_terms.proofs.CallerLemmas.{extends-trans}
use Rattle.leo_elab.proofs.Standing.{lambda-made, under-made}
use Rattle.leo_elab.specs.declared.quantifiers.Quantifier.TheVariants as Quantifier
use Rattle.leo_elab.proofs.signs.under.Goals as goal

pub returns-in_err-r-in-ForAll-clause-grows : goal.returns-in_err-r-in-ForAll-clause-grows
returns-in_err-r-in-ForAll-clause-grows c = extends-trans c.make_lam.ensures.grows c.over.ensures.grows

pub returns-in_ok-r-in-ForAll-clause-made : goal.returns-in_ok-r-in-ForAll-clause-made
returns-in_ok-r-in-ForAll-clause-made c = rw c.in-ForAll.is (under-made Quantifier.Pi c.args.ty c.make_lam.ensures.grows c.requires.ty (rw c.in-ForAll.is at c.requires.fits) (lambda-made c.make_lam.ensures.grows c.requires.ty c.in_ok-function.ensures.made c.in_ok-function.ensures.arrow) c.in_ok-r-in-ForAll.ensures.made)

pub returns-in_ok-r-in-ForAll-clause-grows : goal.returns-in_ok-r-in-ForAll-clause-grows
returns-in_ok-r-in-ForAll-clause-grows c = extends-trans c.make_lam.ensures.grows c.over.ensures.grows

pub returns-in_err-r-in-Exists-clause-grows : goal.returns-in_err-r-in-Exists-clause-grows
returns-in_err-r-in-Exists-clause-grows c = extends-trans c.make_lam.ensures.grows c.over-in-Exists.ensures.grows

pub returns-in_ok-r-in-Exists-clause-made : goal.returns-in_ok-r-in-Exists-clause-made
returns-in_ok-r-in-Exists-clause-made c = rw c.in-Exists.is (under-made Quantifier.Sigma c.args.ty c.make_lam.ensures.grows c.requires.ty (rw c.in-Exists.is at c.requires.fits) (lambda-made c.make_lam.ensures.grows c.requires.ty c.in_ok-function.ensures.made c.in_ok-function.ensures.arrow) c.in_ok-r-in-Exists.ensures.made)

pub returns-in_ok-r-in-Exists-clause-grows : goal.returns-in_ok-r-in-Exists-clause-grows
returns-in_ok-r-in-Exists-clause-grows c = extends-trans c.make_lam.ensures.grows c.over-in-Exists.ensures.grows

pub returns-in-Lambda-clause-made : goal.returns-in-Lambda-clause-made
returns-in-Lambda-clause-made c = rw c.in-Lambda.is (lambda-made c.make_lam.ensures.grows c.requires.ty c.in_ok-function.ensures.made c.in_ok-function.ensures.arrow)

pub returns-in_err-r-in-Choice-clause-grows : goal.returns-in_err-r-in-Choice-clause-grows
returns-in_err-r-in-Choice-clause-grows c = extends-trans c.make_lam.ensures.grows c.over-in-Choice.ensures.grows

pub returns-in_ok-r-in-Choice-clause-made : goal.returns-in_ok-r-in-Choice-clause-made
returns-in_ok-r-in-Choice-clause-made c = rw c.in-Choice.is (under-made Quantifier.Choice c.args.ty c.make_lam.ensures.grows c.requires.ty (rw c.in-Choice.is at c.requires.fits) (lambda-made c.make_lam.ensures.grows c.requires.ty c.in_ok-function.ensures.made c.in_ok-function.ensures.arrow) c.in_ok-r-in-Choice.ensures.made)

pub returns-in_ok-r-in-Choice-clause-grows : goal.returns-in_ok-r-in-Choice-clause-grows
returns-in_ok-r-in-Choice-clause-grows c = extends-trans c.make_lam.ensures.grows c.over-in-Choice.ensures.grows
