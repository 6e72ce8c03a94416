use Rattle.std.proofs.Common.{◌≡◌, arith, rules}
use Rattle.leo_terms.proofs.CallerLemmas.{extends-itself, extends-trans}
use Rattle.leo_clause.specs.Arranging.{place_in}
use Rattle.leo_clause.proofs.Renaming.{types-at, renaming-none, renaming-next}
use Rattle.leo_clause.proofs.arranging.renaming.Goals as goal

pub loop-number-init : goal.loop-number-init
loop-number-init c = (extends-itself c.is_sound.ensures.sound, renaming-none c.args.bank.now c.args.order.now.keys c.args.vars.now c.new-sigma.result.items c.new-sigma.ensures.items)

pub make_var-requires : goal.make_var-requires
make_var-requires c =
    let h = types-at c.args.bank.now c.args.vars.now c.requires c.loop-number.number c.index-vars-number.result c.loop-number-test.true c.index-vars-number.is in
    let m = c.loop-number.invariant.0.types_more in
    omega arith

pub returns-in_default-clause-grows : goal.returns-in_default-clause-grows
returns-in_default-clause-grows c = c.loop-number.invariant.0

pub returns-in_err-push-clause-grows : goal.returns-in_err-push-clause-grows
returns-in_err-push-clause-grows c = extends-trans c.loop-number.invariant.0 c.make_var.ensures.grows

pub loop-number-preserved : goal.loop-number-preserved
loop-number-preserved c =
    let e = c.loop-number.invariant.0 in
    let f = c.make_var.ensures.grows in
    let p : c.in-Ok.place ≡ place_in c.args.order.now.keys c.loop-number.number = search rules in
    let n = renaming-next c.args.bank.now c.loop-number.bank c.make_var.new.self c.args.order.now.keys c.args.vars.now c.loop-number.sigma.items c.loop-number.number c.in_ok-term.term c.index-vars-number.result c.in-Ok.place e f c.requires c.loop-number.invariant.1 c.loop-number-test.true c.index-vars-number.is c.in_ok-term.ensures.made p in
    (extends-trans e f, rw c.in_ok-push.ensures.items n)
