use Rattle.fo_super.specs.Members.{meetings}
use Rattle.fo_super.specs.Turns.{done}
use Rattle.fo_super.proofs.Fronts.{front-get, front-same, front-trans}
use Rattle.fo_super.proofs.Noted.{more-same, more-trans}
use Rattle.fo_super.proofs.Works.{item-at, partner-at, partners-all, partners-next}
use Rattle.fo_super.proofs.working.work_meetings.Goals as goal

pub loop-number-init : goal.loop-number-init
loop-number-init c = record { worked = λ d ps e a. done; fit = c.requires.fit; noted = c.requires.noted; more_notes = more-same c.args.notes.now; more_clauses = front-same c.args.clauses.now; more_origins = front-same c.args.origins.now }

pub loop-number-preserved : goal.loop-number-preserved
loop-number-preserved c = record {
  worked = λ d ps e a.
      let x = partner-at c.args.clauses.now c.loop-number.clauses c.args.partners.now ps c.loop-number.number-index _ a c.loop-number.invariant.more_clauses (item-at c.args.partners.now c.loop-number.number-index 0 c.loop-number-test.true) in
      partners-next c.args.problem.now (meetings c.args.given d.lits) ps c.loop-number.number-index (_, x.0) x.1 (c.loop-number.invariant.worked d ps e a)
      (c.in_ok-work_meeting.ensures.worked d x.0 (front-get c.args.clauses.now c.loop-number.clauses c.args.given d c.loop-number.invariant.more_clauses e) x.2);
  fit = c.in_ok-work_meeting.ensures.fit;
  noted = c.in_ok-work_meeting.ensures.noted;
  more_notes = more-trans c.args.notes.now c.loop-number.notes c.work_meeting.new.notes c.loop-number.invariant.more_notes c.in_ok-work_meeting.ensures.more_notes;
  more_clauses = front-trans c.args.clauses.now c.loop-number.clauses c.work_meeting.new.clauses c.loop-number.invariant.more_clauses c.in_ok-work_meeting.ensures.more_clauses;
  more_origins = front-trans c.args.origins.now c.loop-number.origins c.work_meeting.new.origins c.loop-number.invariant.more_origins c.in_ok-work_meeting.ensures.more_origins;
}

pub returns-clause-worked : goal.returns-clause-worked
returns-clause-worked c = λ d ps e a. partners-all c.args.problem.now (meetings c.args.given d.lits) ps c.args.partners.now c.loop-number.number-index a.0 c.loop-number-test.false (c.loop-number.invariant.worked d ps e a)
