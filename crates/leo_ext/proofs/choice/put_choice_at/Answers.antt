use Rattle.std.proofs.Common.{◌∙◌, sym}
use Rattle.leo_terms.proofs.CallerLemmas.{extends-trans}
use Rattle.leo_ext.proofs.Adding.{typed-grow}
use Rattle.leo_ext.proofs.ChoiceMembers.{both-sides, one-side, truths-kept, within-kept}
use Rattle.leo_ext.proofs.choice.put_choice_at.Goals as goal

pub returns-then-formula-clause-adds : goal.returns-then-formula-clause-adds
returns-then-formula-clause-adds c = one-side c.args.before c.args.at c.args.clause.now c.args.lit c.args.dues.now.items c.put_choice_side.new.dues.items (sym c.is_formula-formula.ensures ∙ c.if-formula.true) c.in_ok-put_choice_side.ensures.adds

pub put_choice_side-requires-2-clause-truths : goal.put_choice_side-requires-2-clause-truths
put_choice_side-requires-2-clause-truths c = truths-kept c.put_choice_side.ensures.grows c.args.truths.now c.requires.truths

pub put_choice_side-requires-2-clause-clause : goal.put_choice_side-requires-2-clause-clause
put_choice_side-requires-2-clause-clause c = typed-grow c.put_choice_side.ensures.grows c.args.clause.now c.requires.clause

pub put_choice_side-requires-2-clause-side : goal.put_choice_side-requires-2-clause-side
put_choice_side-requires-2-clause-side c = within-kept c.put_choice_side.ensures.grows c.args.lit.right c.requires.lit.1

pub returns-in_err-put_choice_side-2-clause-grows : goal.returns-in_err-put_choice_side-2-clause-grows
returns-in_err-put_choice_side-2-clause-grows c = extends-trans c.put_choice_side.ensures.grows c.put_choice_side-2.ensures.grows

pub returns-clause-adds : goal.returns-clause-adds
returns-clause-adds c = both-sides c.args.before c.args.at c.args.clause.now c.args.lit c.args.dues.now.items c.put_choice_side.new.dues.items c.put_choice_side-2.new.dues.items c.requires.clause.of_bank c.requires.lit.1 (sym c.is_formula-formula.ensures ∙ c.if-formula.false) c.in_ok-put_choice_side.ensures.adds c.in_ok-put_choice_side-2.ensures.adds

pub returns-clause-grows : goal.returns-clause-grows
returns-clause-grows c = extends-trans c.put_choice_side.ensures.grows c.put_choice_side-2.ensures.grows
