use Rattle.leo_terms.proofs.CallerLemmas.{extends-itself, extends-trans, are_terms-kept}
use Rattle.leo_tstp.proofs.Built.{site-kept}
use Rattle.leo_tstp.proofs.Recorded.{terms-push, no-terms}
use Rattle.leo_tstp.proofs.building.records.terms.Goals as goal

pub loop-parsed-init : goal.loop-parsed-init
loop-parsed-init c = record { site = c.requires; terms = no-terms c.args.bank.now c.new-found.ensures; grows = extends-itself c.is_sound.ensures.sound }

pub returns-in_err-t-clause-grows : goal.returns-in_err-t-clause-grows
returns-in_err-t-clause-grows c = extends-trans c.loop-parsed.invariant.grows c.outer.ensures.grows

pub returns-in_err-push-clause-grows : goal.returns-in_err-push-clause-grows
returns-in_err-push-clause-grows c = extends-trans c.loop-parsed.invariant.grows c.outer.ensures.grows

pub loop-parsed-preserved : goal.loop-parsed-preserved
loop-parsed-preserved c = record { site = site-kept c.outer.ensures.grows c.loop-parsed.invariant.site; terms = rw c.in_ok-push.ensures.ok (terms-push c.outer.new.bank _ _ (are_terms-kept c.outer.ensures.grows _ c.loop-parsed.invariant.terms) c.in_ok-t.ensures.within); grows = extends-trans c.loop-parsed.invariant.grows c.outer.ensures.grows }
