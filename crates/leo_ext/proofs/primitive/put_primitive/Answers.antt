use Rattle.std.proofs.Common.{arith}
use Rattle.leo_terms.proofs.CallerLemmas.{extends-trans}
use Rattle.leo_ext.specs.Members.{primitive_at}
use Rattle.leo_ext.proofs.Adding.{first-all, first-none, first-next-at, typed-grow}
use Rattle.leo_ext.proofs.ChoiceMembers.{truths-kept}
use Rattle.leo_ext.proofs.primitive.put_primitive.Goals as goal

pub loop-at-init : goal.loop-at-init
loop-at-init c = first-none (primitive_at c.args.before) c.args.bank.now c.args.clause.now c.is_sound.ensures.sound c.args.dues.now.items

pub put_primitive_at-requires-clause-truths : goal.put_primitive_at-requires-clause-truths
put_primitive_at-requires-clause-truths c = truths-kept c.loop-at.invariant.adds.extends c.args.truths.now c.requires.truths

pub put_primitive_at-requires-clause-clause : goal.put_primitive_at-requires-clause-clause
put_primitive_at-requires-clause-clause c = typed-grow c.loop-at.invariant.adds.extends c.args.clause.now c.requires.clause

pub returns-in_err-put_primitive_at-clause-grows : goal.returns-in_err-put_primitive_at-clause-grows
returns-in_err-put_primitive_at-clause-grows c = extends-trans c.loop-at.invariant.adds.extends c.put_primitive_at.ensures.grows

pub loop-at-preserved : goal.loop-at-preserved
loop-at-preserved c =
    first-next-at (primitive_at c.args.before) c.args.bank.now c.args.clause.now c.requires.clause.of_bank c.loop-at.bank c.put_primitive_at.new.bank c.loop-at.at c.args.dues.now.items c.loop-at.dues.items c.put_primitive_at.new.dues.items
    c.loop-at.invariant (let a = c.len-at-end.ensures in let b = c.loop-at-test.true in omega arith) c.in_ok-put_primitive_at.ensures.adds

pub returns-clause-adds : goal.returns-clause-adds
returns-clause-adds c = first-all (primitive_at c.args.before) c.args.bank.now c.args.clause.now c.loop-at.bank c.loop-at.at c.args.dues.now.items c.loop-at.dues.items (let a = c.len-at-end.ensures in let b = c.loop-at-test.false in omega arith) c.loop-at.invariant

pub returns-clause-grows : goal.returns-clause-grows
returns-clause-grows c = c.loop-at.invariant.adds.extends
