use Rattle.std.proofs.Common.{rules, arith, ◌<◌, length}
use Rattle.leo_terms.proofs.CallerLemmas.{tree-kept}
use Rattle.leo_turn.proofs.Assumptions.{formula-type, hypothesis-assumed, step-assumed}
use Rattle.leo_turn.proofs.Growing.{grows-itself, grows-lines}
use Rattle.leo_turn.proofs.Lists.{longer-pushed, longer-same}
use Rattle.leo_turn.proofs.starting.assume.Goals as goal

pub returns-in_err-right-clause-longer : goal.returns-in_err-right-clause-longer
returns-in_err-right-clause-longer c = grows-itself c.args.search.now

pub returns-in_err-push-clause-longer : goal.returns-in_err-push-clause-longer
returns-in_err-push-clause-longer c = grows-itself c.args.search.now

pub returns-in_err-push-2-clause-longer : goal.returns-in_err-push-2-clause-longer
returns-in_err-push-2-clause-longer c = grows-lines c.args.search.now c.push-2.new.self (longer-same c.in_err-push-2.ensures.err)

pub returns-clause-longer : goal.returns-clause-longer
returns-clause-longer c = grows-lines c.args.search.now c.push-2.new.self (longer-pushed _ c.in_ok-push-2.ensures.ok)

pub returns-clause-assumed : goal.returns-clause-assumed
returns-clause-assumed c =
    let e = c.make_logic.ensures.grows in
    let made = c.in_ok-right.ensures.made in
    let within : c.args.formula < length c.make_logic.new.self.terms = (let l = c.requires.formula.within in let m = e.terms_more in omega (arith, l, m)) in
    let typed = formula-type e c.args.search.now c.requires.search c.args.formula c.in_ok-right.right c.requires.formula made.within made.type_is made.reads in
    let step = step-assumed c.make_logic.new.self _ c.args.number c.args.formula c.in_ok-right.right (search rules) (search rules) within made.within _ (tree-kept e c.args.formula c.requires.formula.within) made.reads in
    rw c.in_ok-push-2.ensures.ok (hypothesis-assumed e c.args.search.now c.requires.search c.args.number c.args.formula _ c.requires.stands c.requires.formula typed step.0 step.1)
