use Rattle.std.proofs.Common.{◌≡◌, ◌++◌, map, take}
use Rattle.leo_clause.specs.Trees.{literal_at}
use Rattle.leo_para.specs.Members.{each_literal, members_of_target}
use Rattle.leo_para.specs.Found.{member_read}
use Rattle.leo_para.proofs.due.put_equation_side.Given as goal

abbrev pub invariant-loop-number : goal.invariant-loop-number
invariant-loop-number l = map (member_read l.bank) l.found.items ≡ map (member_read l.bank) l.fn.found.items ++ each_literal (members_of_target l.equation.number (literal_at l.bank l.equation.lit) l.equation.side) 0 (map (literal_at l.bank) (take l.number l.targets))
