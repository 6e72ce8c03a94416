use Rattle.leo_clausify.specs.Picking.{HasNone}
use Rattle.leo_ext.proofs.choosing.find.Given as goal

abbrev pub invariant-loop-at : goal.invariant-loop-at
invariant-loop-at l = HasNone l.items l.t l.at
