use Rattle.leo_terms.proofs.CallerLemmas.{extends-itself, extends-trans}
use Rattle.leo_ext.proofs.BoundMaking.{lambdas-bound, lambdas-made, lambdas-none}
use Rattle.leo_ext.proofs.binding.+under_lambdas.Goals as goal

pub returns-in-None-clause-made : goal.returns-in-None-clause-made
returns-in-None-clause-made m c = lambdas-none c.args.bank.now c.args.types.now c.args.t c.in-None.ensures.cases c.requires.within

pub returns-in-None-clause-grows : goal.returns-in-None-clause-grows
returns-in-None-clause-grows m c = extends-itself c.is_sound.ensures.sound

pub make_lam-requires-clause-typed : goal.make_lam-requires-clause-typed
make_lam-requires-clause-typed m c =
    lambdas-bound c.under_lambdas.ensures.grows c.args.types.now c.in-Some.first.now c.in-Some.rest.now c.in-Some.ensures.cases.0 c.requires.types c.args.t c.in_ok-below-in-Some.below c.requires.indices c.in_ok-below-in-Some.ensures.made

pub returns-in_err-whole-in-Some-clause-grows : goal.returns-in_err-whole-in-Some-clause-grows
returns-in_err-whole-in-Some-clause-grows m c = extends-trans c.under_lambdas.ensures.grows c.make_lam.ensures.grows

pub returns-in_ok-whole-in-Some-clause-made : goal.returns-in_ok-whole-in-Some-clause-made
returns-in_ok-whole-in-Some-clause-made m c =
    lambdas-made c.under_lambdas.ensures.grows c.make_lam.ensures.grows c.args.types.now c.in-Some.first.now c.in-Some.rest.now c.in-Some.ensures.cases.0 c.requires.types c.args.t c.in_ok-below-in-Some.below c.in_ok-whole-in-Some.whole _ c.in_ok-below-in-Some.ensures.made c.in_ok-whole-in-Some.ensures.made

pub returns-in_ok-whole-in-Some-clause-grows : goal.returns-in_ok-whole-in-Some-clause-grows
returns-in_ok-whole-in-Some-clause-grows m c = extends-trans c.under_lambdas.ensures.grows c.make_lam.ensures.grows
