use Rattle.leo_terms.proofs.CallerLemmas.{extends-trans}
use Rattle.leo_clausify.proofs.Banks.{some-made}
use Rattle.leo_clausify.proofs.closing.some_term.Goals as goal

pub returns-in_err-property-clause-grows : goal.returns-in_err-property-clause-grows
returns-in_err-property-clause-grows c = extends-trans c.truth.ensures.grows c.make_lam.ensures.grows

pub returns-in_err-term-clause-grows : goal.returns-in_err-term-clause-grows
returns-in_err-term-clause-grows c = extends-trans (extends-trans c.truth.ensures.grows c.make_lam.ensures.grows) c.make_logic.ensures.grows

pub returns-clause-made : goal.returns-clause-made
returns-clause-made c = some-made c.truth.ensures.grows c.make_lam.ensures.grows c.requires c.in_ok-t.ensures.made c.in_ok-property.ensures.made c.in_ok-term.ensures.made

pub returns-clause-grows : goal.returns-clause-grows
returns-clause-grows c = extends-trans (extends-trans c.truth.ensures.grows c.make_lam.ensures.grows) c.make_logic.ensures.grows
