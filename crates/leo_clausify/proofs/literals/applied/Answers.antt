use Rattle.leo_terms.proofs.CallerLemmas.{extends-trans, tree-kept}
use Rattle.leo_kernel.proofs.Growing.{property-applies}
use Rattle.leo_clausify.proofs.literals.applied.Goals as goal

pub make_app-requires-clause-typed : goal.make_app-requires-clause-typed
make_app-requires-clause-typed c = property-applies c.make_var.ensures.grows c.requires c.in_ok-x.ensures.made

pub returns-in_err-whole-clause-grows : goal.returns-in_err-whole-clause-grows
returns-in_err-whole-clause-grows c = extends-trans c.make_var.ensures.grows c.make_app.ensures.grows

pub returns-in_err-new-clause-grows : goal.returns-in_err-new-clause-grows
returns-in_err-new-clause-grows c = extends-trans (extends-trans c.make_var.ensures.grows c.make_app.ensures.grows) c.single.ensures.grows

pub returns-clause-made : goal.returns-clause-made
returns-clause-made c = rw (c.in_ok-whole.ensures.made.reads, tree-kept c.make_var.ensures.grows c.args.property c.requires.within, c.in_ok-x.ensures.made.reads) at c.in_ok-new.ensures.made

pub returns-clause-grows : goal.returns-clause-grows
returns-clause-grows c = extends-trans (extends-trans c.make_var.ensures.grows c.make_app.ensures.grows) c.single.ensures.grows
