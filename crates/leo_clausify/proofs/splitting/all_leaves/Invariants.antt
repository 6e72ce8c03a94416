use Rattle.std.proofs.Common.{◌≡◌, map, take}
use Rattle.leo_clausify.specs.Moves.{records_after}
use Rattle.leo_clausify.proofs.splitting.all_leaves.Given as goal

abbrev pub invariant-loop-branch : goal.invariant-loop-branch
invariant-loop-branch l = l.leaves ≡ map (λ b. record { clause = b.clause; records = records_after l.before b.steps }) (take l.branch-index l.branches)
