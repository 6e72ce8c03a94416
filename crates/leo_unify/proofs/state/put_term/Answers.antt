use Rattle.leo_terms.proofs.CallerLemmas.{extends-trans}
use Rattle.leo_unify.proofs.StateLemmas.{put-made}
use Rattle.leo_unify.proofs.state.put_term.Goals as goal

pub returns-in_err-r-clause-grows : goal.returns-in_err-r-clause-grows
returns-in_err-r-clause-grows c = extends-trans c.subst.ensures.grows c.normal.ensures.grows

pub returns-clause-put : goal.returns-clause-put
returns-clause-put c = put-made c.subst.ensures.grows c.normal.ensures.grows _ c.args.t c.in_ok-s.s c.in_ok-r.r c.requires.within c.in_ok-s.ensures.made c.in_ok-r.ensures.made

pub returns-clause-grows : goal.returns-clause-grows
returns-clause-grows c = extends-trans c.subst.ensures.grows c.normal.ensures.grows
