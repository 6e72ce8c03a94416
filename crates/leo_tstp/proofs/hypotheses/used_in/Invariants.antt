use Rattle.std.proofs.Common.{ℕ, ◌≡◌, nat_eq, map, take}
use Rattle.indexmap.specs.IndexSet.{contains}
use Rattle.leo_kernel.specs.Steps.{line_at}
use Rattle.leo_tstp.specs.Derivations.{is_used}
use Rattle.leo_tstp.proofs.hypotheses.used_in.Given as goal

abbrev pub invariant-loop-line : goal.invariant-loop-line
invariant-loop-line l = (n : ℕ) → contains nat_eq l.used n ≡ is_used (map (line_at l.bank) (take l.line-index l.lines)) n
