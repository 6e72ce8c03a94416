use Rattle.std.proofs.Common.{ℕ, ◌≡◌}
use Rattle.fo_super.proofs.Answering.{NoneBelow}
use Rattle.fo_super.proofs.numbering.place_of.Given as goal

abbrev pub invariant-loop-place : goal.invariant-loop-place
invariant-loop-place l = NoneBelow (λ (n : ℕ). n ≡ l.name) l.names l.place
