use Rattle.fo_super.proofs.Fronts.{front-get, front-long, front-trans, front-within}
use Rattle.fo_super.proofs.Noted.{more-trans}
use Rattle.fo_super.proofs.Works.{all-longer, partners-grown, works-append}
use Rattle.fo_super.proofs.working.work_turn.Goals as goal

pub work_meetings-requires-clause-given : goal.work_meetings-requires-clause-given
work_meetings-requires-clause-given c = front-within c.args.clauses.now c.work_alone.new.clauses c.args.given c.work_alone.ensures.more_clauses c.requires.given

pub work_meetings-requires-clause-partners : goal.work_meetings-requires-clause-partners
work_meetings-requires-clause-partners c = all-longer c.args.partners.now _ _ (front-long c.args.clauses.now c.work_alone.new.clauses c.work_alone.ensures.more_clauses) c.requires.partners

pub returns-clause-worked : goal.returns-clause-worked
returns-clause-worked c = λ d ps e a.
    works-append c.args.problem.now (c.in_ok-work_alone.ensures.worked d e)
    (c.in_ok-work_meetings.ensures.worked d ps (front-get c.args.clauses.now c.work_alone.new.clauses c.args.given d c.work_alone.ensures.more_clauses e) (partners-grown c.args.clauses.now c.work_alone.new.clauses c.args.partners.now ps c.work_alone.ensures.more_clauses a))

pub returns-clause-more_clauses : goal.returns-clause-more_clauses
returns-clause-more_clauses c = front-trans c.args.clauses.now c.work_alone.new.clauses c.work_meetings.new.clauses c.work_alone.ensures.more_clauses c.work_meetings.ensures.more_clauses

pub returns-clause-more_origins : goal.returns-clause-more_origins
returns-clause-more_origins c = front-trans c.args.origins.now c.work_alone.new.origins c.work_meetings.new.origins c.work_alone.ensures.more_origins c.work_meetings.ensures.more_origins

pub returns-in_err-work_meetings-clause-more_clauses : goal.returns-in_err-work_meetings-clause-more_clauses
returns-in_err-work_meetings-clause-more_clauses c = front-trans c.args.clauses.now c.work_alone.new.clauses c.work_meetings.new.clauses c.work_alone.ensures.more_clauses c.work_meetings.ensures.more_clauses

pub returns-in_err-work_meetings-clause-more_origins : goal.returns-in_err-work_meetings-clause-more_origins
returns-in_err-work_meetings-clause-more_origins c = front-trans c.args.origins.now c.work_alone.new.origins c.work_meetings.new.origins c.work_alone.ensures.more_origins c.work_meetings.ensures.more_origins

pub returns-clause-more_notes : goal.returns-clause-more_notes
returns-clause-more_notes c = more-trans c.args.notes.now c.work_alone.new.notes c.work_meetings.new.notes c.work_alone.ensures.more_notes c.work_meetings.ensures.more_notes

pub returns-in_err-work_meetings-clause-more_notes : goal.returns-in_err-work_meetings-clause-more_notes
returns-in_err-work_meetings-clause-more_notes c = more-trans c.args.notes.now c.work_alone.new.notes c.work_meetings.new.notes c.work_alone.ensures.more_notes c.work_meetings.ensures.more_notes
