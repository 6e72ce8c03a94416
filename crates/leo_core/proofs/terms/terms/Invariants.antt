use Rattle.std.proofs.Common.{◌≡◌, ◌++◌, map, drop}
use Rattle.leo_core.proofs.terms.terms.Given as goal

abbrev pub invariant-loop-hyp : goal.invariant-loop-hyp
invariant-loop-hyp l = l.found ++ map (λ h. h.term) (drop l.hyp-index l.hyps) ≡ map (λ h. h.term) l.hyps
