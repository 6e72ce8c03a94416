use Rattle.std.proofs.Common.{arith}
use Rattle.leo_terms.proofs.CallerLemmas.{extends-itself, extends-trans}
use Rattle.leo_clause.proofs.Renaming.{types-at}
use Rattle.leo_clausify.specs.Giving.{index_tree}
use Rattle.leo_clausify.proofs.Giving.{given-none, given-next}
use Rattle.leo_ext.proofs.choosing.index_terms.Goals as goal

pub loop-number-init : goal.loop-number-init
loop-number-init c = (extends-itself c.is_sound.ensures.sound, rw c.new-sigma.ensures.items (given-none (index_tree c.args.n) c.args.bank.now c.args.vars.now))

pub index_term-requires : goal.index_term-requires
index_term-requires c =
    let l = types-at c.args.bank.now c.args.vars.now c.requires c.loop-number.number c.index-vars-number.result c.loop-number-test.true c.index-vars-number.is in
    let m = c.loop-number.invariant.0.types_more in
    omega arith

pub returns-in_err-term-clause-grows : goal.returns-in_err-term-clause-grows
returns-in_err-term-clause-grows c = extends-trans c.loop-number.invariant.0 c.index_term.ensures.grows

pub returns-in_err-push-clause-grows : goal.returns-in_err-push-clause-grows
returns-in_err-push-clause-grows c = extends-trans c.loop-number.invariant.0 c.index_term.ensures.grows

pub loop-number-preserved : goal.loop-number-preserved
loop-number-preserved c =
    let e = c.loop-number.invariant.0 in
    let f = c.index_term.ensures.grows in
    (extends-trans e f, rw c.in_ok-push.ensures.items (given-next (index_tree c.args.n) c.args.bank.now c.loop-number.bank c.index_term.new.bank c.args.vars.now c.loop-number.sigma.items c.loop-number.number c.in_ok-term.term c.index-vars-number.result e f c.requires c.loop-number.invariant.1 c.loop-number-test.true c.index-vars-number.is c.in_ok-term.ensures.made))
