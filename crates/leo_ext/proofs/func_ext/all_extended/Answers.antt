use Rattle.leo_terms.proofs.CallerLemmas.{extends-trans}
use Rattle.leo_ext.proofs.Adding.{typed-grow}
use Rattle.leo_ext.proofs.FunctionMembers.{extends-all, extends-next, extends-none}
use Rattle.leo_ext.proofs.func_ext.all_extended.Goals as goal

pub loop-at-init : goal.loop-at-init
loop-at-init c = rw c.new-extended.ensures.items (extends-none c.args.bank.now c.is_sound.ensures.sound c.args.choices.now.items c.args.clause.now c.requires.in_order)

pub put_extended_at-requires-clause-clause : goal.put_extended_at-requires-clause-clause
put_extended_at-requires-clause-clause c = typed-grow c.loop-at.invariant.extends c.args.clause.now c.requires.clause

pub put_extended_at-requires-clause-in_order : goal.put_extended_at-requires-clause-in_order
put_extended_at-requires-clause-in_order c = c.loop-at.invariant.in_order

pub returns-in_err-put_extended_at-clause-grows : goal.returns-in_err-put_extended_at-clause-grows
returns-in_err-put_extended_at-clause-grows c = extends-trans c.loop-at.invariant.extends c.put_extended_at.ensures.grows

pub returns-clause-made : goal.returns-clause-made
returns-clause-made c = extends-all c.args.choices.now.items c.loop-at.choices.items c.args.clause.now c.loop-at.at c.loop-at.extended.items (rw c.as_slice-lits.ensures at c.loop-at-test.false) c.loop-at.invariant

pub returns-clause-grows : goal.returns-clause-grows
returns-clause-grows c = c.loop-at.invariant.extends

pub loop-at-preserved : goal.loop-at-preserved
loop-at-preserved c =
    extends-next c.put_extended_at.ensures.grows c.args.choices.now.items c.loop-at.choices.items c.put_extended_at.new.choices.items c.args.clause.now c.requires.clause.of_bank c.loop-at.at c.index-lits-at.result c.loop-at.extended.items c.put_extended_at.new.extended.items
    c.loop-at.invariant (rw c.as_slice-lits.ensures at c.loop-at-test.true) (rw c.as_slice-lits.ensures at c.index-lits-at.is) c.in_ok-put_extended_at.ensures.made
