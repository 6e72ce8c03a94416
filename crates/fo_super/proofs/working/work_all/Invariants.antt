use Rattle.std.proofs.Common.{map, take}
use Rattle.fo_super.specs.Notes.{AreMoreNotes, AreNotes}
use Rattle.fo_super.specs.Passives.{IsFrontOf}
use Rattle.fo_super.specs.Runs.{origin_of}
use Rattle.fo_super.specs.Turns.{Works}
use Rattle.fo_super.specs.Viewing.{member_of}
use Rattle.fo_super.proofs.working.work_all.Given as goal

abbrev pub invariant-loop-member : goal.invariant-loop-member
invariant-loop-member l = record {
  worked : Works l.problem (map member_of (take l.member-index l.members)) l.fn.clauses (map origin_of l.fn.origins) l.clauses (map origin_of l.origins);
  noted : AreNotes l.notes l.clauses;
  more_notes : AreMoreNotes l.fn.notes l.notes;
  more_clauses : IsFrontOf l.fn.clauses l.clauses;
  more_origins : IsFrontOf l.fn.origins l.origins;
}
