use Rattle.std.proofs.Common.{[]}
use Rattle.leo_passive.proofs.Calls
use Rattle.leo_passive.proofs.passive.Passive.new.Goals as goal

pub invariant_of-result : goal.invariant_of-result
invariant_of-result c = (Calls.keeps c.in_ok-with.field-0 c.new.result.items [] (Calls.nothing c.in_ok-with.field-0 c.new.result.items c.in_ok-with.ensures c.new.ensures.items)).0
