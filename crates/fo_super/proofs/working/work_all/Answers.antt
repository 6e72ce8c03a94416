use Rattle.fo_super.specs.Turns.{done}
use Rattle.fo_super.proofs.Fronts.{front-same, front-trans}
use Rattle.fo_super.proofs.Noted.{more-same, more-trans}
use Rattle.fo_super.proofs.Works.{works-all, works-fit, works-next}
use Rattle.fo_super.proofs.working.work_all.Goals as goal

pub loop-member-init : goal.loop-member-init
loop-member-init c = record { worked = done; noted = c.requires.noted; more_notes = more-same c.args.notes.now; more_clauses = front-same c.args.clauses.now; more_origins = front-same c.args.origins.now }

pub work-requires : goal.work-requires
work-requires c = record { fit = works-fit c.args.problem.now c.loop-member.invariant.worked c.requires.fit; noted = c.loop-member.invariant.noted }

pub loop-member-preserved : goal.loop-member-preserved
loop-member-preserved c = record {
  worked = works-next c.args.problem.now c.args.members.now c.loop-member.member-index c.member-item.result c.loop-member-test.true c.member-item.is c.loop-member.invariant.worked c.in_ok-work.ensures.worked;
  noted = c.in_ok-work.ensures.noted;
  more_notes = more-trans c.args.notes.now c.loop-member.notes c.work.new.notes c.loop-member.invariant.more_notes c.in_ok-work.ensures.more_notes;
  more_clauses = front-trans c.args.clauses.now c.loop-member.clauses c.work.new.clauses c.loop-member.invariant.more_clauses c.in_ok-work.ensures.more_clauses;
  more_origins = front-trans c.args.origins.now c.loop-member.origins c.work.new.origins c.loop-member.invariant.more_origins c.in_ok-work.ensures.more_origins;
}

pub returns-in_err-work-clause-more_clauses : goal.returns-in_err-work-clause-more_clauses
returns-in_err-work-clause-more_clauses c = front-trans c.args.clauses.now c.loop-member.clauses c.work.new.clauses c.loop-member.invariant.more_clauses c.in_err-work.ensures.more_clauses

pub returns-in_err-work-clause-more_origins : goal.returns-in_err-work-clause-more_origins
returns-in_err-work-clause-more_origins c = front-trans c.args.origins.now c.loop-member.origins c.work.new.origins c.loop-member.invariant.more_origins c.in_err-work.ensures.more_origins

pub returns-in_err-work-clause-more_notes : goal.returns-in_err-work-clause-more_notes
returns-in_err-work-clause-more_notes c = more-trans c.args.notes.now c.loop-member.notes c.work.new.notes c.loop-member.invariant.more_notes c.in_err-work.ensures.more_notes

pub returns-clause-worked : goal.returns-clause-worked
returns-clause-worked c = works-all c.args.problem.now c.args.members.now c.loop-member.member-index c.loop-member-test.false c.loop-member.invariant.worked

pub returns-clause-fit : goal.returns-clause-fit
returns-clause-fit c = works-fit c.args.problem.now c.loop-member.invariant.worked c.requires.fit
