use Rattle.std.proofs.Common.{subst}
use Rattle.leo_terms.specs.Typing.{IsWellTyped}
use Rattle.leo_terms.proofs.CallerLemmas.{extends-trans, new_bank, term-typed}
use Rattle.leo_clausify.proofs.reducing.chosen_normal.Goals as goal

pub returns-in_err-form-clause-grows : goal.returns-in_err-form-clause-grows
returns-in_err-form-clause-grows c = extends-trans c.chosen_term.ensures.grows c.normal.ensures.grows

pub returns-clause-typed : goal.returns-clause-typed
returns-clause-typed c = let m = c.in_ok-term.ensures.made in subst IsWellTyped m.reads (term-typed (new_bank c.chosen_term.ensures.grows) c.in_ok-term.term m.within)

pub returns-clause-grows : goal.returns-clause-grows
returns-clause-grows c = extends-trans c.chosen_term.ensures.grows c.normal.ensures.grows
