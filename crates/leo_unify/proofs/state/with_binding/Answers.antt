use Rattle.leo_terms.proofs.CallerLemmas.{extends-itself, extends-trans, new_bank}
use Rattle.leo_unify.proofs.StateLemmas.{vars-of, terms-ready, pairs-of-ready, pairs-ready, state-value, state-is, state-types}
use Rattle.leo_unify.proofs.state.with_binding.Goals as goal

pub returns-in_err-vars-clause-grows : goal.returns-in_err-vars-clause-grows
returns-in_err-vars-clause-grows c =
    extends-itself c.is_sound.ensures.sound

pub given-requires-clause-vars : goal.given-requires-clause-vars
given-requires-clause-vars c =
    rw c.as_slice-3.ensures (vars-of (extends-itself c.is_sound.ensures.sound) (extends-itself c.is_sound.ensures.sound) (extends-itself c.is_sound.ensures.sound) c.args.state.now c.args.binding.now c.requires.state c.requires.binding c.requires.typed c.in_ok-vars.vars (rw (c.as_slice.ensures, c.as_slice-2.ensures) at c.in_ok-vars.ensures))

pub put_terms-requires-clause-given : goal.put_terms-requires-clause-given
put_terms-requires-clause-given c =
    rw (c.deref.ensures.value, c.as_slice-4.ensures) (terms-ready c.given.ensures.grows (extends-itself (new_bank c.given.ensures.grows)) (extends-itself (new_bank c.given.ensures.grows)) c.args.state.now c.args.binding.now c.requires.state c.requires.binding c.requires.typed c.in_ok-vars.vars (rw (c.as_slice.ensures, c.as_slice-2.ensures) at c.in_ok-vars.ensures) c.in_ok-sigma.sigma.items (rw c.as_slice-3.ensures at c.in_ok-sigma.ensures.value) c.in_ok-sigma.ensures.terms)

pub returns-in_err-terms-clause-grows : goal.returns-in_err-terms-clause-grows
returns-in_err-terms-clause-grows c =
    extends-trans c.given.ensures.grows c.put_terms.ensures.grows

pub put_pairs-requires-clause-within : goal.put_pairs-requires-clause-within
put_pairs-requires-clause-within c =
    rw c.as_slice-5.ensures (pairs-of-ready c.given.ensures.grows c.put_terms.ensures.grows (extends-itself (new_bank c.put_terms.ensures.grows)) c.args.state.now c.args.binding.now c.requires.state c.requires.binding c.requires.typed c.in_ok-vars.vars (rw (c.as_slice.ensures, c.as_slice-2.ensures) at c.in_ok-vars.ensures) c.in_ok-sigma.sigma.items (rw c.as_slice-3.ensures at c.in_ok-sigma.ensures.value) c.in_ok-sigma.ensures.terms)

pub put_pairs-requires-clause-given : goal.put_pairs-requires-clause-given
put_pairs-requires-clause-given c =
    rw (c.deref-2.ensures.value, c.as_slice-5.ensures) (pairs-ready c.given.ensures.grows c.put_terms.ensures.grows (extends-itself (new_bank c.put_terms.ensures.grows)) c.args.state.now c.args.binding.now c.requires.state c.requires.binding c.requires.typed c.in_ok-vars.vars (rw (c.as_slice.ensures, c.as_slice-2.ensures) at c.in_ok-vars.ensures) c.in_ok-sigma.sigma.items (rw c.as_slice-3.ensures at c.in_ok-sigma.ensures.value) c.in_ok-sigma.ensures.terms)

pub returns-in_err-pairs-clause-grows : goal.returns-in_err-pairs-clause-grows
returns-in_err-pairs-clause-grows c =
    extends-trans (extends-trans c.given.ensures.grows c.put_terms.ensures.grows) c.put_pairs.ensures.grows

pub returns-clause-value : goal.returns-clause-value
returns-clause-value c =
    state-value c.given.ensures.grows c.put_terms.ensures.grows c.put_pairs.ensures.grows c.args.state.now c.args.binding.now c.requires.state c.requires.binding c.requires.typed c.in_ok-vars.vars (rw (c.as_slice.ensures, c.as_slice-2.ensures) at c.in_ok-vars.ensures) c.in_ok-sigma.sigma.items (rw c.as_slice-3.ensures at c.in_ok-sigma.ensures.value) c.in_ok-sigma.ensures.terms c.in_ok-terms.terms (rw (c.deref.ensures.value, c.as_slice-4.ensures) at c.in_ok-terms.ensures.put) c.in_ok-terms.ensures.within c.in_ok-pairs.pairs (rw (c.deref-2.ensures.value, c.as_slice-5.ensures) at c.in_ok-pairs.ensures.put) c.in_ok-pairs.ensures.within

pub returns-clause-state : goal.returns-clause-state
returns-clause-state c =
    state-is c.given.ensures.grows c.put_terms.ensures.grows c.put_pairs.ensures.grows c.args.state.now c.args.binding.now c.requires.state c.requires.binding c.requires.typed c.in_ok-vars.vars (rw (c.as_slice.ensures, c.as_slice-2.ensures) at c.in_ok-vars.ensures) c.in_ok-sigma.sigma.items (rw c.as_slice-3.ensures at c.in_ok-sigma.ensures.value) c.in_ok-sigma.ensures.terms c.in_ok-terms.terms (rw (c.deref.ensures.value, c.as_slice-4.ensures) at c.in_ok-terms.ensures.put) c.in_ok-terms.ensures.within c.in_ok-pairs.pairs (rw (c.deref-2.ensures.value, c.as_slice-5.ensures) at c.in_ok-pairs.ensures.put) c.in_ok-pairs.ensures.within

pub returns-clause-types : goal.returns-clause-types
returns-clause-types c =
    state-types c.given.ensures.grows c.put_terms.ensures.grows c.put_pairs.ensures.grows c.args.state.now c.args.binding.now c.requires.state c.requires.binding c.requires.typed c.in_ok-vars.vars (rw (c.as_slice.ensures, c.as_slice-2.ensures) at c.in_ok-vars.ensures) c.in_ok-sigma.sigma.items (rw c.as_slice-3.ensures at c.in_ok-sigma.ensures.value) c.in_ok-sigma.ensures.terms c.in_ok-terms.terms (rw (c.deref.ensures.value, c.as_slice-4.ensures) at c.in_ok-terms.ensures.put) c.in_ok-terms.ensures.within c.in_ok-pairs.pairs (rw (c.deref-2.ensures.value, c.as_slice-5.ensures) at c.in_ok-pairs.ensures.put) c.in_ok-pairs.ensures.within

pub returns-clause-grows : goal.returns-clause-grows
returns-clause-grows c =
    extends-trans (extends-trans c.given.ensures.grows c.put_terms.ensures.grows) c.put_pairs.ensures.grows
