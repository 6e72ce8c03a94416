use Rattle.std.proofs.Common.{ℕ, ◌≡◌, ◌≤◌, map, length}
use Rattle.fo_super.specs.Runs.{origin_of}
use Rattle.fo_prove.specs.Marks.{IsClosedFrom}
use Rattle.fo_prove.proofs.needed.visit_all.Given as goal

abbrev pub invariant-loop-left : goal.invariant-loop-left
invariant-loop-left l = record {
  within : l.left ≤ length l.origins;
  same_length : length l.marks ≡ length l.origins;
  closed : (e : ℕ) → IsClosedFrom (length l.origins) (map origin_of l.origins) e l.initial.marks → IsClosedFrom l.left (map origin_of l.origins) e l.marks;
}

abbrev pub decreases-loop-left : goal.decreases-loop-left
decreases-loop-left l = l.left
