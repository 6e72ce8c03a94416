use Rattle.std.proofs.Common.{◌≡◌, ◌≤◌, ◌-◌}
use Rattle.fo_super.specs.Runs.{search_of, IsState}
use Rattle.fo_prove.specs.Endings.{HasNoEmptyBefore, IsSoFar}
use Rattle.fo_prove.proofs.running.run.Given as goal

abbrev pub invariant-turns : goal.invariant-turns
invariant-turns g l = record {
  problem : l.state.problem ≡ l.fn.problem;
  state : IsState l.state;
  so_far : IsSoFar l.state.problem (search_of l.state) (g.O.Sink.taken l.initial.out) (g.O.Sink.taken l.out);
  looked : HasNoEmptyBefore l.looked l.state.clauses;
  never_falls : g.O.Sink.faults l.initial.out ≤ g.O.Sink.faults l.out;
}

abbrev pub decreases-turns : goal.decreases-turns
decreases-turns g l = l.fn.problem.turns - l.state.turns
