use Rattle.leo_terms.proofs.CallerLemmas.{extends-trans}
use Rattle.leo_turn.proofs.Growing.{grows-trans}
use Rattle.leo_turn.proofs.Worked.{worked_to-at, worked_to-first, worked_to-last, worked_to-next}
use Rattle.leo_turn.proofs.working.work_all.Goals as goal

pub loop-due-init : goal.loop-due-init
loop-due-init c = worked_to-first c.args.bank.now c.args.search.now c.args.dues.now c.is_sound.ensures.sound c.requires.search

pub work-requires-clause-due : goal.work-requires-clause-due
work-requires-clause-due c = worked_to-at c.args.search.now c.loop-due.search c.args.first.now c.args.dues.now c.loop-due.due-index c.due-item.result c.requires.search c.loop-due.invariant c.requires.dues c.loop-due-test.true c.due-item.is

pub returns-in_err-work-clause-longer : goal.returns-in_err-work-clause-longer
returns-in_err-work-clause-longer c = grows-trans c.loop-due.invariant.grows c.work.ensures.longer

pub returns-in_err-work-clause-grows : goal.returns-in_err-work-clause-grows
returns-in_err-work-clause-grows c = extends-trans c.loop-due.invariant.extends c.work.ensures.grows

pub loop-due-preserved : goal.loop-due-preserved
loop-due-preserved c = worked_to-next c.args.search.now c.loop-due.search c.args.first.now c.args.dues.now c.loop-due.due-index c.due-item.result c.requires.search c.loop-due.invariant c.requires.dues c.loop-due-test.true c.due-item.is c.work.ensures.grows c.work.new.search c.in_ok-work.ensures.search c.work.ensures.longer c.in_ok-work.ensures.worked

pub returns-clause-worked : goal.returns-clause-worked
returns-clause-worked c = worked_to-last c.args.search.now c.loop-due.search c.args.dues.now c.loop-due.due-index c.loop-due.invariant c.loop-due-test.false
