use Rattle.std.proofs.Common.{take}
use Rattle.fo_super.specs.Notes.{AreNotes}
use Rattle.fo_super.proofs.notes.FoNotes.of.Given as goal

abbrev pub invariant-loop-clause : goal.invariant-loop-clause
invariant-loop-clause l = AreNotes l.notes (take l.clause-index l.clauses)
