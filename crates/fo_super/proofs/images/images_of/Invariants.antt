use Rattle.std.proofs.Common.{◌≡◌}
use Rattle.fo_terms.specs.Substitutions.{image}
use Rattle.fo_replay.specs.Instances.{as_terms}
use Rattle.fo_super.specs.Conclusions.{images_from}
use Rattle.fo_super.proofs.images.images_of.Given as goal

abbrev pub invariant-loop-number : goal.invariant-loop-number
invariant-loop-number l = as_terms l.list ≡ images_from (image l.pairs) 0 l.number
