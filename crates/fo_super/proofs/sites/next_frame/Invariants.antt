use Rattle.std.proofs.Common.{◌≡◌, length}
use Rattle.std.specs.Prelude.{reverse}
use Rattle.fo_terms.specs.Terms.{Terms}
use Rattle.fo_super.specs.Walks.{pending}
use Rattle.fo_super.proofs.sites.next_frame.Given as goal

abbrev pub invariant-loop-frame : goal.invariant-loop-frame
invariant-loop-frame l = (ts : Terms) → pending (reverse l.initial.path.items) (reverse l.initial.frames.items) ts ≡ pending (reverse l.path.items) (reverse l.frames.items) ts

abbrev pub decreases-loop-frame : goal.decreases-loop-frame
decreases-loop-frame l = length l.frames.items
