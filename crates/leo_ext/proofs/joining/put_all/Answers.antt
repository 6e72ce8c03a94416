use Rattle.leo_terms.proofs.CallerLemmas.{extends-trans}
use Rattle.leo_ext.proofs.Adding.{typed-grow}
use Rattle.leo_ext.proofs.ChoiceMembers.{truths-kept}
use Rattle.leo_ext.proofs.FunctionMembers.{extended-grow}
use Rattle.leo_ext.proofs.Joined.{joined-put}
use Rattle.leo_ext.proofs.joining.put_all.Goals as goal

pub put_resolve-requires : goal.put_resolve-requires
put_resolve-requires c = record { clause = typed-grow c.make_truths.ensures.grows c.args.clause.now c.requires.clause }

pub put_factor-requires-clause-clause : goal.put_factor-requires-clause-clause
put_factor-requires-clause-clause c = typed-grow c.make_truths.ensures.grows c.args.clause.now c.requires.clause

pub put_bool_ext-requires-clause-clause : goal.put_bool_ext-requires-clause-clause
put_bool_ext-requires-clause-clause c = typed-grow c.make_truths.ensures.grows c.args.clause.now c.requires.clause

pub put_func_ext-requires : goal.put_func_ext-requires
put_func_ext-requires c = extended-grow c.make_truths.ensures.grows c.args.extended.now c.requires.extended

pub put_primitive-requires-clause-clause : goal.put_primitive-requires-clause-clause
put_primitive-requires-clause-clause c = typed-grow c.make_truths.ensures.grows c.args.clause.now c.requires.clause

pub returns-in_err-put_primitive-clause-grows : goal.returns-in_err-put_primitive-clause-grows
returns-in_err-put_primitive-clause-grows c = extends-trans c.make_truths.ensures.grows c.put_primitive.ensures.grows

pub put_choice-requires-clause-truths : goal.put_choice-requires-clause-truths
put_choice-requires-clause-truths c = truths-kept c.put_primitive.ensures.grows c.in_ok-truths.truths c.in_ok-truths.ensures.truths

pub put_choice-requires-clause-clause : goal.put_choice-requires-clause-clause
put_choice-requires-clause-clause c = typed-grow (extends-trans c.make_truths.ensures.grows c.put_primitive.ensures.grows) c.args.clause.now c.requires.clause

pub returns-in_err-put_choice-clause-grows : goal.returns-in_err-put_choice-clause-grows
returns-in_err-put_choice-clause-grows c = extends-trans (extends-trans c.make_truths.ensures.grows c.put_primitive.ensures.grows) c.put_choice.ensures.grows

pub returns-clause-adds : goal.returns-clause-adds
returns-clause-adds c =
    joined-put c.make_truths.ensures.grows c.put_primitive.ensures.grows c.args.clause.now c.requires.clause.of_bank c.args.before c.args.extended.now c.requires.extended
    c.args.dues.now.items c.put_resolve.new.dues.items c.put_factor.new.dues.items c.put_bool_ext.new.dues.items c.put_func_ext.new.dues.items c.put_primitive.new.dues.items c.put_choice.new.dues.items
    c.in_ok-put_resolve.ensures.adds c.in_ok-put_factor.ensures.adds c.in_ok-put_bool_ext.ensures.adds c.in_ok-put_func_ext.ensures.adds c.in_ok-put_primitive.ensures.adds c.in_ok-put_choice.ensures.adds

pub returns-clause-grows : goal.returns-clause-grows
returns-clause-grows c = extends-trans (extends-trans c.make_truths.ensures.grows c.put_primitive.ensures.grows) c.put_choice.ensures.grows
