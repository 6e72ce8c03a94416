use Rattle.leo_terms.specs.Contents.{tree_at}
use Rattle.leo_terms.proofs.CallerLemmas.{extends-itself, extends-trans}
use Rattle.leo_kernel.proofs.Growing.{types-grow}
use Rattle.leo_kernel.proofs.ChosenNext.{there-on, back-on, none-on, get-decides, type-same}
use Rattle.leo_kernel.proofs.chosen_matching.may_fit.Goals as goal

pub loop-bank-init : goal.loop-bank-init
loop-bank-init c = record { grows = extends-itself c.is_sound.ensures.sound; within = c.requires.within; there = λ m. m; back = λ m. m }

pub extended-requires-clause-vars : goal.extended-requires-clause-vars
extended-requires-clause-vars c = types-grow c.loop-bank.invariant.grows c.args.vars.now c.requires.vars

pub returns-in_err-next-clause-grows : goal.returns-in_err-next-clause-grows
returns-in_err-next-clause-grows c = extends-trans c.loop-bank.invariant.grows c.extended.ensures.grows

pub loop-bank-preserved : goal.loop-bank-preserved
loop-bank-preserved c =
    let n = rw c.in-Some.is at c.in_ok-next.ensures.value in
    record {
      grows = extends-trans c.loop-bank.invariant.grows c.extended.ensures.grows;
      within = n.within;
      there = there-on c.loop-bank.invariant.grows c.args.vars.now c.args.wanted.now c.requires.vars c.requires.ty c.requires.form (tree_at c.args.bank.now c.args.t) c.loop-bank.term c.in-Some.next n c.loop-bank.invariant.there;
      back = back-on c.loop-bank.invariant.grows c.args.vars.now c.args.wanted.now c.requires.vars c.requires.ty c.requires.form (tree_at c.args.bank.now c.args.t) c.loop-bank.term c.in-Some.next n c.loop-bank.invariant.back;
    }

pub returns-in-None-clause-value : goal.returns-in-None-clause-value
returns-in-None-clause-value c = none-on c.loop-bank.invariant.grows c.args.vars.now c.args.wanted.now c.requires.vars c.requires.ty c.requires.form (tree_at c.args.bank.now c.args.t) c.loop-bank.term c.loop-bank.invariant.there (rw c.in-None.is at c.in_ok-next.ensures.value)

pub returns-in-None-clause-grows : goal.returns-in-None-clause-grows
returns-in-None-clause-grows c = extends-trans c.loop-bank.invariant.grows c.extended.ensures.grows

pub returns-in_err-fit-clause-grows : goal.returns-in_err-fit-clause-grows
returns-in_err-fit-clause-grows c = extends-trans c.loop-bank.invariant.grows c.fits.ensures.grows

pub returns-clause-value : goal.returns-clause-value
returns-clause-value c =
    get-decides c.loop-bank.invariant.grows c.args.vars.now c.args.wanted.now c.requires.ty c.requires.form c.loop-bank.term (tree_at c.args.bank.now c.args.t) c.loop-bank.invariant.within c.loop-bank.invariant.there c.loop-bank.invariant.back
    (type-same c.loop-bank.bank c.type_of.ensures.sound c.loop-bank.term c.type_of.result c.args.wanted.now.ty c.loop-bank.invariant.within c.type_of.ensures.number c.ne.result c.ne.ensures c.loop-bank-test.false)
    c.in_ok-fit.fit c.in_ok-fit.ensures.value

pub returns-clause-grows : goal.returns-clause-grows
returns-clause-grows c = extends-trans c.loop-bank.invariant.grows c.fits.ensures.grows
