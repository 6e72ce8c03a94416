use Rattle.std.proofs.Common.{◌≡◌, length}
use Rattle.fo_terms.specs.Substitutions.{image}
use Rattle.fo_super.proofs.images.image_of.Given as goal

abbrev pub invariant-loop-first : goal.invariant-loop-first
invariant-loop-first l = image l.pairs l.number ≡ image l.rest l.number

abbrev pub decreases-loop-first : goal.decreases-loop-first
decreases-loop-first l = length l.rest
