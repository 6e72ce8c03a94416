use Rattle.leo_terms.proofs.CallerLemmas.{extends-trans}
use Rattle.leo_turn.proofs.Growing.{grows-trans}
use Rattle.leo_turn.proofs.Worked.{taken_to-at, taken_to-first, taken_to-last, taken_to-next}
use Rattle.leo_turn.proofs.working.take_conclusions.Goals as goal

pub loop-conclusion-init : goal.loop-conclusion-init
loop-conclusion-init c = taken_to-first c.args.bank.now c.args.search.now c.args.found.now c.is_sound.ensures.sound c.requires.search

pub take_conclusion-requires-clause-conclusion : goal.take_conclusion-requires-clause-conclusion
take_conclusion-requires-clause-conclusion c = taken_to-at c.args.search.now c.loop-conclusion.search c.args.start c.args.found.now c.loop-conclusion.conclusion-index c.conclusion-item.result c.requires.search c.loop-conclusion.invariant c.requires.conclusions c.loop-conclusion-test.true c.conclusion-item.is

pub returns-in_err-take_conclusion-clause-longer : goal.returns-in_err-take_conclusion-clause-longer
returns-in_err-take_conclusion-clause-longer c = grows-trans c.loop-conclusion.invariant.grows c.take_conclusion.ensures.longer

pub returns-in_err-take_conclusion-clause-grows : goal.returns-in_err-take_conclusion-clause-grows
returns-in_err-take_conclusion-clause-grows c = extends-trans c.loop-conclusion.invariant.extends c.take_conclusion.ensures.grows

pub loop-conclusion-preserved : goal.loop-conclusion-preserved
loop-conclusion-preserved c = taken_to-next c.args.search.now c.loop-conclusion.search c.args.start c.args.found.now c.loop-conclusion.conclusion-index c.conclusion-item.result c.requires.search c.loop-conclusion.invariant c.requires.conclusions c.loop-conclusion-test.true c.conclusion-item.is c.take_conclusion.ensures.grows c.take_conclusion.new.search c.in_ok-take_conclusion.ensures.search c.take_conclusion.ensures.longer c.in_ok-take_conclusion.ensures.taken

pub returns-clause-taken : goal.returns-clause-taken
returns-clause-taken c = taken_to-last c.args.search.now c.loop-conclusion.search c.args.found.now c.loop-conclusion.conclusion-index c.loop-conclusion.invariant c.loop-conclusion-test.false
