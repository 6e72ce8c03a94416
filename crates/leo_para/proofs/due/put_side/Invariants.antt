use Rattle.std.proofs.Common.{◌≡◌, ◌++◌, map, take}
use Rattle.std.specs.List.{flat_map}
use Rattle.leo_clause.specs.Trees.{literal_at}
use Rattle.leo_para.specs.Members.{member_at}
use Rattle.leo_para.specs.Reading.{place_at}
use Rattle.leo_para.specs.Found.{member_read}
use Rattle.leo_para.proofs.due.put_side.Given as goal

abbrev pub invariant-loop-spot : goal.invariant-loop-spot
invariant-loop-spot l = map (member_read l.bank) l.found.items ≡ map (member_read l.bank) l.fn.found.items ++ flat_map (member_at l.equation.number (literal_at l.bank l.equation.lit) l.equation.side l.target.number (literal_at l.bank l.target.lit) l.target.side) (map (place_at l.bank) (take l.spot-index l.spot-items))
