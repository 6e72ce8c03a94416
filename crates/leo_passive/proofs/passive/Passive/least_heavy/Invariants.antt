use Rattle.leo_passive.proofs.Walking.{Walks}
use Rattle.leo_passive.proofs.passive.Passive.least_heavy.Given as goal

abbrev pub invariant-loop : goal.invariant-loop
invariant-loop l = Walks l.self l.best l.here l.counter
