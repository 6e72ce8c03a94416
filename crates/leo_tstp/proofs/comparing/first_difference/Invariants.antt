use Rattle.std.proofs.Common.{◌≡◌, ◌≤◌, length, take}
use Rattle.leo_tstp.specs.TextWords.{words}
use Rattle.leo_tstp.proofs.comparing.first_difference.Given as goal

abbrev pub invariant-loop-place : goal.invariant-loop-place
invariant-loop-place l = record {
  same : words l.bytes (take l.place l.tokens) ≡ words l.other (take l.place l.others);
  within : l.place ≤ length l.others;
}
