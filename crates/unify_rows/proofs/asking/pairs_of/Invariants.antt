use Rattle.std.proofs.Common.{◌≡◌, map, take}
use Rattle.unify_rows.specs.Boards.{sides}
use Rattle.unify_rows.proofs.asking.pairs_of.Given as goal

abbrev pub invariant-loop-lit : goal.invariant-loop-lit
invariant-loop-lit l = l.pairs ≡ map sides (take l.lit-index l.lits)
