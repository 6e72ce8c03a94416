use Rattle.leo_terms.proofs.CallerLemmas.{extends-trans}
use Rattle.tstp_rows.proofs.given.make_name.Goals as goal

pub returns-clause-grows : goal.returns-clause-grows
returns-clause-grows c = extends-trans c.fresh.ensures.grows c.make_sym.ensures.grows
