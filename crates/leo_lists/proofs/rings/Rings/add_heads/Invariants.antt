use Rattle.std.proofs.Common.{◌≡◌, ◌≤◌, ◌-◌, ◌++◌, length}
use Rattle.leo_lists.specs.Rings.{own_links}
use Rattle.leo_lists.proofs.rings.Rings.add_heads.Given as goal

abbrev pub invariant-loop-list : goal.invariant-loop-list
invariant-loop-list l =
    (l.count ≡ length l.fn.self.heads.items) × (l.count ≤ l.list) × (l.self.slots.items ≡ l.fn.self.slots.items) ×
    (l.self.heads.items ≡ l.fn.self.heads.items ++ own_links l.count (l.list - l.count))
