use Rattle.leo_terms.proofs.CallerLemmas.{extends-itself, extends-trans}
use Rattle.leo_unify.proofs.StateLemmas.{start-state, start-value, start-types, finds-same}
use Rattle.leo_unify.proofs.solving.solve.Goals as goal

pub returns-in_err-pairs-clause-grows : goal.returns-in_err-pairs-clause-grows
returns-in_err-pairs-clause-grows c =
    extends-itself c.is_sound.ensures.sound

pub returns-in_err-kinds-clause-grows : goal.returns-in_err-kinds-clause-grows
returns-in_err-kinds-clause-grows c =
    extends-itself c.is_sound.ensures.sound

pub search-requires : goal.search-requires
search-requires c =
    record { state = rw (c.in_ok-kinds.ensures, c.in_ok-pairs.ensures) (start-state c.long_variables.ensures.grows c.args.vars.now c.requires.vars c.args.pairs.now c.requires.pairs c.in_ok-terms.terms c.in_ok-terms.ensures.value c.in_ok-terms.ensures.terms) }

pub returns-in_err-found-clause-grows : goal.returns-in_err-found-clause-grows
returns-in_err-found-clause-grows c =
    extends-trans c.long_variables.ensures.grows c.search.ensures.grows

pub returns-clause-found : goal.returns-clause-found
returns-clause-found c =
    finds-same _ _ _ _ (start-value c.long_variables.ensures.grows c.args.vars.now c.requires.vars c.args.pairs.now c.requires.pairs c.in_ok-terms.terms c.in_ok-terms.ensures.value c.in_ok-terms.ensures.terms c.args.depth) (rw (c.in_ok-kinds.ensures, c.in_ok-pairs.ensures) at c.in_ok-found.ensures.found)

pub returns-clause-sigmas : goal.returns-clause-sigmas
returns-clause-sigmas c =
    rw (start-types c.long_variables.ensures.grows c.args.vars.now c.requires.vars c.args.pairs.now c.requires.pairs c.in_ok-terms.terms c.in_ok-terms.ensures.value c.in_ok-terms.ensures.terms) at c.in_ok-found.ensures.sigmas

pub returns-clause-grows : goal.returns-clause-grows
returns-clause-grows c =
    extends-trans c.long_variables.ensures.grows c.search.ensures.grows
