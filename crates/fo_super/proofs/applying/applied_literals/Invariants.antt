use Rattle.std.proofs.Common.{◌≡◌, take, map}
use Rattle.fo_replay.specs.Replays.{images, applied_literal}
use Rattle.fo_replay.specs.Instances.{as_terms}
use Rattle.fo_super.proofs.applying.applied_literals.Given as goal

abbrev pub invariant-loop-literal : goal.invariant-loop-literal
invariant-loop-literal l = l.list ≡ map (applied_literal (images (as_terms l.terms))) (take l.literal-index l.literals)
