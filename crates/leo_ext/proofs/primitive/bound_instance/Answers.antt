use Rattle.leo_terms.proofs.CallerLemmas.{extends-itself, extends-trans}
use Rattle.leo_kernel.proofs.Growing.{types-grow}
use Rattle.leo_ext.proofs.Adding.{typed-grow}
use Rattle.leo_ext.proofs.BoundMembers.{bound-step, indices-are, sigma-fits, term-stands}
use Rattle.leo_ext.proofs.primitive.bound_instance.Goals as goal

pub under_lambdas-requires-clause-indices : goal.under_lambdas-requires-clause-indices
under_lambdas-requires-clause-indices c = indices-are (extends-itself c.is_sound.ensures.sound) c.args.clause.now c.requires.clause c.args.variable.now c.requires.variable c.args.bound.now c.requires.bound c.requires.fits c.args.types.now c.requires.types

pub given_for-requires-clause-types : goal.given_for-requires-clause-types
given_for-requires-clause-types c = rw c.as_slice.ensures (types-grow c.under_lambdas.ensures.grows c.args.clause.now.vars c.requires.clause.of_bank.types_of)

pub given_for-requires-clause-typed : goal.given_for-requires-clause-typed
given_for-requires-clause-typed c =
    rw c.as_slice.ensures (term-stands c.under_lambdas.ensures.grows c.args.clause.now c.requires.clause c.args.variable.now c.requires.variable c.args.bound.now c.requires.bound c.requires.fits c.args.types.now c.requires.types c.in_ok-term.term c.in_ok-term.ensures.made c.from-number.result c.from-number.ensures)

pub returns-in_err-sigma-clause-grows : goal.returns-in_err-sigma-clause-grows
returns-in_err-sigma-clause-grows c = extends-trans c.under_lambdas.ensures.grows c.given_for.ensures.grows

pub instance-requires-clause-clause : goal.instance-requires-clause-clause
instance-requires-clause-clause c = typed-grow (extends-trans c.under_lambdas.ensures.grows c.given_for.ensures.grows) c.args.clause.now c.requires.clause

pub instance-requires-clause-fresh : goal.instance-requires-clause-fresh
instance-requires-clause-fresh c = rw c.as_slice-2.ensures (types-grow (extends-trans c.under_lambdas.ensures.grows c.given_for.ensures.grows) c.args.bound.now.fresh c.requires.bound.fresh_of)

pub instance-requires-clause-terms : goal.instance-requires-clause-terms
instance-requires-clause-terms c = rw c.deref.ensures.value c.in_ok-sigma.ensures.given.terms

pub instance-requires-clause-fits : goal.instance-requires-clause-fits
instance-requires-clause-fits c =
    rw (c.as_slice-2.ensures, c.deref.ensures.value)
    (sigma-fits c.under_lambdas.ensures.grows c.args.clause.now c.requires.clause c.args.variable.now c.requires.variable c.args.bound.now c.requires.bound c.requires.fits c.args.types.now c.requires.types c.in_ok-term.term c.in_ok-term.ensures.made c.given_for.ensures.grows c.from-number.result c.from-number.ensures c.in_ok-sigma.sigma.items
    (rw c.as_slice.ensures at c.in_ok-sigma.ensures.given))

pub returns-in_err-record-clause-grows : goal.returns-in_err-record-clause-grows
returns-in_err-record-clause-grows c = extends-trans (extends-trans c.under_lambdas.ensures.grows c.given_for.ensures.grows) c.instance.ensures.grows

pub returns-clause-made : goal.returns-clause-made
returns-clause-made c =
    bound-step c.under_lambdas.ensures.grows c.args.clause.now c.requires.clause c.args.variable.now c.requires.variable c.args.bound.now c.requires.bound c.requires.fits c.args.types.now c.requires.types c.in_ok-term.term c.in_ok-term.ensures.made c.given_for.ensures.grows c.from-number.result c.from-number.ensures c.in_ok-sigma.sigma.items
    (rw c.as_slice.ensures at c.in_ok-sigma.ensures.given) c.instance.new.bank c.in_ok-record.record c.args.before
    (rw (c.as_slice-2.ensures, c.deref.ensures.value) at c.in_ok-record.ensures.made)

pub returns-clause-grows : goal.returns-clause-grows
returns-clause-grows c = extends-trans (extends-trans c.under_lambdas.ensures.grows c.given_for.ensures.grows) c.instance.ensures.grows
