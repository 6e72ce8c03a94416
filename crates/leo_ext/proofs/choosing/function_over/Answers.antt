use Rattle.leo_terms.proofs.CallerLemmas.{extends-trans}
use Rattle.leo_clausify.proofs.Functions.{over-given, body-bound, function-made, type-within}
use Rattle.leo_ext.proofs.choosing.function_over.Goals as goal

pub subst-requires-clause-given : goal.subst-requires-clause-given
subst-requires-clause-given c =
    rw c.deref.ensures.value (over-given c.index_terms.ensures.grows c.args.vars.now c.in_ok-sigma.sigma.items c.args.n c.args.t c.requires.types c.requires.within c.requires.over c.in_ok-sigma.ensures.given)

pub returns-in_err-body-clause-grows : goal.returns-in_err-body-clause-grows
returns-in_err-body-clause-grows c = extends-trans c.index_terms.ensures.grows c.subst.ensures.grows

pub make_lam-requires-clause-from : goal.make_lam-requires-clause-from
make_lam-requires-clause-from c = type-within (extends-trans c.index_terms.ensures.grows c.subst.ensures.grows) c.args.vars.now c.requires.types c.args.n c.type_in.result c.type_in.ensures

pub make_lam-requires-clause-typed : goal.make_lam-requires-clause-typed
make_lam-requires-clause-typed c =
    body-bound c.index_terms.ensures.grows c.args.vars.now c.in_ok-sigma.sigma.items c.args.n c.args.t c.requires.types c.requires.within c.requires.over c.in_ok-sigma.ensures.given c.subst.ensures.grows c.type_in.result c.type_in.ensures c.in_ok-body.body _ (rw c.deref.ensures.value at c.in_ok-body.ensures.made)

pub returns-in_err-whole-clause-grows : goal.returns-in_err-whole-clause-grows
returns-in_err-whole-clause-grows c = extends-trans (extends-trans c.index_terms.ensures.grows c.subst.ensures.grows) c.make_lam.ensures.grows

pub returns-clause-made : goal.returns-clause-made
returns-clause-made c =
    function-made c.index_terms.ensures.grows c.args.vars.now c.in_ok-sigma.sigma.items c.args.n c.args.t c.requires.types c.requires.within c.requires.over c.in_ok-sigma.ensures.given c.subst.ensures.grows c.type_in.result c.type_in.ensures c.in_ok-body.body _ (rw c.deref.ensures.value at c.in_ok-body.ensures.made) c.make_lam.new.self c.in_ok-whole.whole _ c.in_ok-whole.ensures.made

pub returns-clause-grows : goal.returns-clause-grows
returns-clause-grows c = extends-trans (extends-trans c.index_terms.ensures.grows c.subst.ensures.grows) c.make_lam.ensures.grows
