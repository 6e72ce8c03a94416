use Rattle.leo_terms.proofs.CallerLemmas.{extends-itself, extends-trans}
use Rattle.leo_turn.proofs.Introducing.{introduced-first, introduced-from, introduced-hypotheses, introduced-lines, introduced-next, introduced-order}
use Rattle.leo_turn.proofs.Growing.{grows-trans}
use Rattle.leo_turn.proofs.Lists.{stands-at}
use Rattle.leo_turn.proofs.choices.introduce_all.Goals as goal

pub loop-place-init : goal.loop-place-init
loop-place-init c = (extends-itself c.is_sound.ensures.sound, rw c.len-place.ensures (introduced-first c.args.bank.now c.args.search.now c.args.items.now c.requires.search c.requires.order c.requires.longer c.requires.new))

pub introduce-requires-clause-order : goal.introduce-requires-clause-order
introduce-requires-clause-order c = introduced-order c.loop-place.bank c.args.search.now c.loop-place.search c.args.items.now c.loop-place.place c.index-items-place.result c.loop-place.invariant.1 (stands-at c.args.items.now c.loop-place.place c.index-items-place.result c.loop-place-test.true c.index-items-place.is)

pub introduce-requires-clause-hypotheses_lack : goal.introduce-requires-clause-hypotheses_lack
introduce-requires-clause-hypotheses_lack c = introduced-hypotheses c.loop-place.bank c.args.search.now c.loop-place.search c.args.items.now c.loop-place.place c.index-items-place.result c.loop-place.invariant.1 (stands-at c.args.items.now c.loop-place.place c.index-items-place.result c.loop-place-test.true c.index-items-place.is)

pub introduce-requires-clause-lines_lack : goal.introduce-requires-clause-lines_lack
introduce-requires-clause-lines_lack c = introduced-lines c.loop-place.bank c.args.search.now c.loop-place.search c.args.items.now c.loop-place.place c.index-items-place.result c.loop-place.invariant.1 (stands-at c.args.items.now c.loop-place.place c.index-items-place.result c.loop-place-test.true c.index-items-place.is)

pub introduce-requires-clause-origin : goal.introduce-requires-clause-origin
introduce-requires-clause-origin c = introduced-from c.loop-place.bank c.args.search.now c.loop-place.search c.args.items.now c.loop-place.place c.index-items-place.result c.loop-place.invariant.1 (stands-at c.args.items.now c.loop-place.place c.index-items-place.result c.loop-place-test.true c.index-items-place.is)

pub returns-in_err-introduce-clause-grows : goal.returns-in_err-introduce-clause-grows
returns-in_err-introduce-clause-grows c = extends-trans c.loop-place.invariant.0 c.introduce.ensures.grows

pub returns-in_err-introduce-clause-longer : goal.returns-in_err-introduce-clause-longer
returns-in_err-introduce-clause-longer c = grows-trans c.loop-place.invariant.1.grows c.introduce.ensures.longer

pub loop-place-preserved : goal.loop-place-preserved
loop-place-preserved c = (extends-trans c.loop-place.invariant.0 c.introduce.ensures.grows, introduced-next c.loop-place.bank c.args.search.now c.loop-place.search c.args.items.now c.loop-place.place c.index-items-place.result c.loop-place.invariant.1 (stands-at c.args.items.now c.loop-place.place c.index-items-place.result c.loop-place-test.true c.index-items-place.is) c.introduce.ensures.grows c.introduce.new.search c.in_ok-introduce.ensures.introduced c.introduce.ensures.longer)
