use Rattle.leo_terms.proofs.CallerLemmas.{extends-trans}
use Rattle.leo_ext.proofs.FunctionMembers.{equal-made, left-applies, right-applies}
use Rattle.leo_ext.proofs.func_ext.equal_lit.Goals as goal

pub make_app-requires-clause-typed : goal.make_app-requires-clause-typed
make_app-requires-clause-typed c = left-applies c.make_var.ensures.grows c.args.lit.now c.args.arrow.now c.requires.functions c.args.number c.in_ok-x.x c.in_ok-x.ensures.made

pub returns-in_err-left-clause-grows : goal.returns-in_err-left-clause-grows
returns-in_err-left-clause-grows c = extends-trans c.make_var.ensures.grows c.make_app.ensures.grows

pub make_app-requires-2-clause-typed : goal.make_app-requires-2-clause-typed
make_app-requires-2-clause-typed c = right-applies c.make_var.ensures.grows c.args.lit.now c.args.arrow.now c.requires.functions c.args.number c.in_ok-x.x c.in_ok-x.ensures.made c.make_app.ensures.grows

pub returns-in_err-right-clause-grows : goal.returns-in_err-right-clause-grows
returns-in_err-right-clause-grows c = extends-trans (extends-trans c.make_var.ensures.grows c.make_app.ensures.grows) c.make_app-2.ensures.grows

pub returns-clause-made : goal.returns-clause-made
returns-clause-made c = equal-made c.make_var.ensures.grows c.args.lit.now c.args.arrow.now c.requires.functions c.args.number c.in_ok-x.x c.in_ok-x.ensures.made c.make_app.ensures.grows c.make_app-2.ensures.grows c.in_ok-left.left c.in_ok-right.right _ _ c.in_ok-left.ensures.made c.in_ok-right.ensures.made

pub returns-clause-grows : goal.returns-clause-grows
returns-clause-grows c = extends-trans (extends-trans c.make_var.ensures.grows c.make_app.ensures.grows) c.make_app-2.ensures.grows
