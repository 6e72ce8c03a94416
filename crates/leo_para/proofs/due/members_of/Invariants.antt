use Rattle.std.proofs.Common.{[], ◌≡◌, ◌++◌, map, take}
use Rattle.leo_clause.specs.Trees.{literal_at}
use Rattle.leo_para.specs.Members.{each_literal, members_of_equation}
use Rattle.leo_para.specs.Found.{member_read}
use Rattle.leo_para.proofs.due.members_of.Given as goal

abbrev pub invariant-loop-number : goal.invariant-loop-number
invariant-loop-number l = map (member_read l.bank) l.found.items ≡ [] ++ each_literal (members_of_equation (map (literal_at l.bank) l.targets)) 0 (map (literal_at l.bank) (take l.number l.equations))
