use Rattle.std.proofs.Common.{ℕ, List, ◌≡◌, Some, map, slice_get, take}
use Rattle.std.specs.Prelude.{flat_map}
use Rattle.std.specs.List.{AllByRecursion}
use Rattle.fo_text.specs.declared.problem.FoClause.{FoClause}
use Rattle.fo_super.specs.Members.{meetings}
use Rattle.fo_super.specs.Notes.{AreMoreNotes, AreNotes}
use Rattle.fo_super.specs.Passives.{ArePartners, IsFrontOf}
use Rattle.fo_super.specs.Runs.{origin_of, IsFit}
use Rattle.fo_super.specs.Turns.{Works}
use Rattle.fo_super.proofs.working.work_meetings.Given as goal

abbrev pub invariant-loop-number : goal.invariant-loop-number
invariant-loop-number l = record {
  worked : (c : FoClause) (ps : List (ℕ × FoClause)) → slice_get l.fn.clauses l.given ≡ Some c → ArePartners l.fn.clauses l.partners ps →
      Works l.problem (flat_map (meetings l.given c.lits) (take l.number-index ps)) l.fn.clauses (map origin_of l.fn.origins) l.clauses (map origin_of l.origins);
  fit : AllByRecursion (IsFit l.problem.syms) l.clauses;
  noted : AreNotes l.notes l.clauses;
  more_notes : AreMoreNotes l.fn.notes l.notes;
  more_clauses : IsFrontOf l.fn.clauses l.clauses;
  more_origins : IsFrontOf l.fn.origins l.origins;
}
