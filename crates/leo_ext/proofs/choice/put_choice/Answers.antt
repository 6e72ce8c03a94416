use Rattle.leo_terms.proofs.CallerLemmas.{extends-trans}
use Rattle.leo_ext.specs.Members.{choice_at}
use Rattle.leo_ext.proofs.Adding.{first-none, first-next, first-all, lit-of, typed-grow}
use Rattle.leo_ext.proofs.ChoiceMembers.{truths-kept, lit-kept}
use Rattle.leo_ext.proofs.choice.put_choice.Goals as goal

pub loop-at-init : goal.loop-at-init
loop-at-init c = first-none (choice_at c.args.before) c.args.bank.now c.args.clause.now c.is_sound.ensures.sound c.args.dues.now.items

pub put_choice_at-requires-clause-truths : goal.put_choice_at-requires-clause-truths
put_choice_at-requires-clause-truths c = truths-kept c.loop-at.invariant.adds.extends c.args.truths.now c.requires.truths

pub put_choice_at-requires-clause-clause : goal.put_choice_at-requires-clause-clause
put_choice_at-requires-clause-clause c = typed-grow c.loop-at.invariant.adds.extends c.args.clause.now c.requires.clause

pub put_choice_at-requires-clause-lit : goal.put_choice_at-requires-clause-lit
put_choice_at-requires-clause-lit c = lit-kept c.loop-at.invariant.adds.extends c.index-lits-at.result (lit-of (choice_at c.args.before) c.args.bank.now c.args.clause.now c.requires.clause.of_bank c.loop-at.at c.index-lits-at.result (rw c.as_slice-lits.ensures at c.loop-at-test.true) (rw c.as_slice-lits.ensures at c.index-lits-at.is))

pub returns-in_err-put_choice_at-clause-grows : goal.returns-in_err-put_choice_at-clause-grows
returns-in_err-put_choice_at-clause-grows c = extends-trans c.loop-at.invariant.adds.extends c.put_choice_at.ensures.grows

pub loop-at-preserved : goal.loop-at-preserved
loop-at-preserved c =
    first-next (choice_at c.args.before) c.args.bank.now c.args.clause.now c.requires.clause.of_bank c.loop-at.bank c.put_choice_at.new.bank c.loop-at.at c.index-lits-at.result c.args.dues.now.items c.loop-at.dues.items c.put_choice_at.new.dues.items
    c.loop-at.invariant (rw c.as_slice-lits.ensures at c.loop-at-test.true) (rw c.as_slice-lits.ensures at c.index-lits-at.is) c.in_ok-put_choice_at.ensures.adds

pub returns-clause-adds : goal.returns-clause-adds
returns-clause-adds c = first-all (choice_at c.args.before) c.args.bank.now c.args.clause.now c.loop-at.bank c.loop-at.at c.args.dues.now.items c.loop-at.dues.items (rw c.as_slice-lits.ensures at c.loop-at-test.false) c.loop-at.invariant

pub returns-clause-grows : goal.returns-clause-grows
returns-clause-grows c = c.loop-at.invariant.adds.extends
