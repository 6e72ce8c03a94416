use Rattle.leo_terms.proofs.CallerLemmas.{extends-trans}
use Rattle.leo_turn.proofs.Growing.{grows-trans}
use Rattle.leo_turn.proofs.Inferred.{done_with-first, done_with-given, done_with-last, done_with-next, done_with-partner}
use Rattle.leo_turn.proofs.inferring.infer_with_all.Goals as goal

pub loop-partner-init : goal.loop-partner-init
loop-partner-init c = done_with-first c.args.bank.now c.args.search.now c.args.given c.args.partners.now c.is_sound.ensures.sound c.requires.search

pub infer_with-requires-clause-given : goal.infer_with-requires-clause-given
infer_with-requires-clause-given c = done_with-given c.args.search.now c.loop-partner.search c.args.given c.args.partners.now c.loop-partner.partner-index c.requires.search c.loop-partner.invariant c.loop-partner-test.true c.requires.given

pub infer_with-requires-clause-partner : goal.infer_with-requires-clause-partner
infer_with-requires-clause-partner c = done_with-partner c.args.search.now c.loop-partner.search c.args.given c.args.partners.now c.loop-partner.partner-index c.requires.search c.loop-partner.invariant c.loop-partner-test.true c.requires.partners

pub returns-in_err-infer_with-clause-longer : goal.returns-in_err-infer_with-clause-longer
returns-in_err-infer_with-clause-longer c = grows-trans c.loop-partner.invariant.grows c.infer_with.ensures.longer

pub returns-in_err-infer_with-clause-grows : goal.returns-in_err-infer_with-clause-grows
returns-in_err-infer_with-clause-grows c = extends-trans c.loop-partner.invariant.extends c.infer_with.ensures.grows

pub loop-partner-preserved : goal.loop-partner-preserved
loop-partner-preserved c = done_with-next c.args.search.now c.loop-partner.search c.args.given c.args.partners.now c.loop-partner.partner-index c.requires.search c.loop-partner.invariant c.loop-partner-test.true c.infer_with.ensures.grows c.infer_with.new.search c.in_ok-infer_with.ensures.search c.infer_with.ensures.longer c.in_ok-infer_with.ensures.inferred

pub returns-clause-inferred : goal.returns-clause-inferred
returns-clause-inferred c = done_with-last c.args.search.now c.loop-partner.search c.args.given c.args.partners.now c.loop-partner.partner-index c.loop-partner.invariant c.loop-partner-test.false
