use Rattle.std.proofs.Common.{◌≡◌, ◌+◌, ◌≤◌, take, length}
use Rattle.leo_edge.proofs.host_files.read_within.Given as goal

abbrev pub invariant-loop : goal.invariant-loop
invariant-loop g l = record {
  stays : take (length l.initial.into.items) l.into.items ≡ l.initial.into.items;
  longer : length l.initial.into.items ≤ length l.into.items;
  within : length l.into.items + l.room ≡ length l.initial.into.items + l.limit;
}
