use Rattle.leo_terms.proofs.CallerLemmas.{extends-trans}
use Rattle.leo_kernel.proofs.ChosenNext.{normal-range, first-of, no-first}
use Rattle.leo_kernel.proofs.chosen_matching.first_argument.Goals as goal

pub candidate-requires-clause-range : goal.candidate-requires-clause-range
candidate-requires-clause-range c = normal-range c.with_fresh.ensures.grows c.normal.ensures.grows c.args.vars.now c.args.wanted.now c.args.f c.args.from c.args.to c.args.top c.in-Some.whole c.in_ok-normal-in-Some.normal c.requires.function (rw c.in-Some.is at c.in_ok-fresh.ensures.value) c.in_ok-normal-in-Some.ensures.made

pub returns-in_err-normal-in-Some-clause-grows : goal.returns-in_err-normal-in-Some-clause-grows
returns-in_err-normal-in-Some-clause-grows c = extends-trans c.with_fresh.ensures.grows c.normal.ensures.grows

pub returns-in_err-number-in-Some-clause-grows : goal.returns-in_err-number-in-Some-clause-grows
returns-in_err-number-in-Some-clause-grows c = extends-trans c.with_fresh.ensures.grows c.normal.ensures.grows

pub returns-in_ok-number-in-Some-clause-value : goal.returns-in_ok-number-in-Some-clause-value
returns-in_ok-number-in-Some-clause-value c =
    first-of c.with_fresh.ensures.grows c.normal.ensures.grows c.args.vars.now c.args.wanted.now c.args.f c.args.from c.args.to c.args.top c.in-Some.whole c.in_ok-normal-in-Some.normal c.requires.function (rw c.in-Some.is at c.in_ok-fresh.ensures.value) c.in_ok-normal-in-Some.ensures.made
    c.requires.vars c.requires.form c.requires.ty c.requires.other c.in_ok-number-in-Some.number c.in_ok-number-in-Some.ensures

pub returns-in_ok-number-in-Some-clause-grows : goal.returns-in_ok-number-in-Some-clause-grows
returns-in_ok-number-in-Some-clause-grows c = extends-trans c.with_fresh.ensures.grows c.normal.ensures.grows

pub returns-in-None-clause-value : goal.returns-in-None-clause-value
returns-in-None-clause-value c = no-first c.args.bank.now c.args.vars.now c.args.wanted.now c.args.f (rw c.in-None.is at c.in_ok-fresh.ensures.value)
