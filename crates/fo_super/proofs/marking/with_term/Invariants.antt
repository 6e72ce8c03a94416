use Rattle.std.proofs.Common.{◌≡◌, length}
use Rattle.std.specs.Prelude.{reverse}
use Rattle.fo_terms.specs.Prefix.{terms_of}
use Rattle.fo_super.specs.Marks.{marks, pending, with_marks}
use Rattle.fo_super.proofs.marking.with_term.Given as goal

abbrev pub invariant-loop-node : goal.invariant-loop-node
invariant-loop-node l = with_marks l.found (pending (reverse l.places.items) (terms_of l.rest)) ≡ with_marks l.mask (marks l.place l.term)

abbrev pub decreases-loop-node : goal.decreases-loop-node
decreases-loop-node l = length l.rest
