use Rattle.std.proofs.Common.{◌≡◌, true, take}
use Rattle.leo_terms.proofs.copy.copied.Given as goal

abbrev pub invariant-loop-place : goal.invariant-loop-place
invariant-loop-place g l = ((x y : _) → g.T.PartialEq.eq x y ≡ true → x ≡ y) → l.copy.keys ≡ take l.place l.nodes.keys
