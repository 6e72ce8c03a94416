use Rattle.leo_terms.proofs.CallerLemmas.{extends-itself, extends-trans}
use Rattle.leo_tstp.proofs.Built.{site-kept}
use Rattle.leo_tstp.proofs.Recorded.{literals-kept, literals-push, clause-typed}
use Rattle.leo_tstp.proofs.building.records.clause.Goals as goal

pub returns-in_err-vars-clause-grows : goal.returns-in_err-vars-clause-grows
returns-in_err-vars-clause-grows c = extends-itself c.is_sound.ensures.sound

pub loop-parsed-init : goal.loop-parsed-init
loop-parsed-init c = record { site = c.requires; built = rw c.new-lits.ensures tt; grows = extends-itself c.is_sound.ensures.sound }

pub returns-in_err-lit-clause-grows : goal.returns-in_err-lit-clause-grows
returns-in_err-lit-clause-grows c = extends-trans c.loop-parsed.invariant.grows c.literal.ensures.grows

pub returns-in_err-push-clause-grows : goal.returns-in_err-push-clause-grows
returns-in_err-push-clause-grows c = extends-trans c.loop-parsed.invariant.grows c.literal.ensures.grows

pub loop-parsed-preserved : goal.loop-parsed-preserved
loop-parsed-preserved c = record { site = site-kept c.literal.ensures.grows c.loop-parsed.invariant.site; built = rw c.in_ok-push.ensures.ok (literals-push _ _ _ _ (literals-kept c.literal.ensures.grows _ _ c.loop-parsed.invariant.site.variables c.loop-parsed.invariant.built) c.in_ok-lit.ensures.built); grows = extends-trans c.loop-parsed.invariant.grows c.literal.ensures.grows }

pub returns-clause-typed : goal.returns-clause-typed
returns-clause-typed c = clause-typed _ _ (rw c.in_ok-vars.ensures c.loop-parsed.invariant.site.variables) (rw c.in_ok-vars.ensures c.loop-parsed.invariant.built)
