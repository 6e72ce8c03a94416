use Rattle.leo_terms.proofs.CallerLemmas.{extends-trans}
use Rattle.leo_kernel.proofs.ChosenMaking.{inside-applies, inside-made}
use Rattle.leo_ext.proofs.choosing.applied_inside.Goals as goal

pub make_app-requires-clause-typed : goal.make_app-requires-clause-typed
make_app-requires-clause-typed c = (inside-applies c.lift.ensures.grows c.make_bound.ensures.grows c.requires c.in_ok-raised.ensures.made c.in_ok-index.ensures.made).0

pub returns-in_err-whole-clause-grows : goal.returns-in_err-whole-clause-grows
returns-in_err-whole-clause-grows c = extends-trans (extends-trans c.lift.ensures.grows c.make_bound.ensures.grows) c.make_app.ensures.grows

pub returns-clause-made : goal.returns-clause-made
returns-clause-made c = inside-made c.lift.ensures.grows c.make_bound.ensures.grows c.requires c.in_ok-raised.ensures.made c.in_ok-index.ensures.made c.in_ok-whole.ensures.made

pub returns-clause-grows : goal.returns-clause-grows
returns-clause-grows c = extends-trans (extends-trans c.lift.ensures.grows c.make_bound.ensures.grows) c.make_app.ensures.grows
