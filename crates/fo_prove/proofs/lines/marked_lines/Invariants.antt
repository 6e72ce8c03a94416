use Rattle.std.proofs.Common.{ℕ, ◌≡◌, ◌≤◌, ◌-◌, ◌++◌, List, [], length, map, drop}
use Rattle.fo_text.specs.declared.answer.FoStep.{FoStep}
use Rattle.fo_super.specs.Runs.{origin_of}
use Rattle.fo_prove.specs.Refutations.{literals_of, AreLines, RestsOn}
use Rattle.fo_prove.specs.Marks.{AreNeeded}
use Rattle.fo_prove.proofs.lines.marked_lines.Given as goal

abbrev pub invariant-loop-at : goal.invariant-loop-at
invariant-loop-at l = record {
  within : l.at ≤ length l.origins;
  counted : length l.lines.last ≡ l.at;
  so_far : (e : ℕ) → AreNeeded (map origin_of l.origins) e l.marks → (rest : List FoStep) →
      AreLines (RestsOn (map origin_of l.origins) e) (literals_of l.clauses) l.lines.next l.lines.last (drop l.at (map origin_of l.origins)) rest →
      AreLines (RestsOn (map origin_of l.origins) e) (literals_of l.clauses) l.first [] (map origin_of l.origins) (l.lines.steps ++ rest);
}

abbrev pub decreases-loop-at : goal.decreases-loop-at
decreases-loop-at l = length l.origins - l.at
