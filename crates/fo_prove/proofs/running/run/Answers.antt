use Rattle.std.proofs.Common.{subst, refl, sym, arith}
use Rattle.fo_super.specs.Turns.{start}
use Rattle.fo_super.specs.Runs.{search_of}
use Rattle.fo_prove.specs.Endings.{IsSoFar}
use Rattle.fo_prove.proofs.Finishing.{started}
use Rattle.fo_prove.proofs.Looking.{none_looked}
use Rattle.fo_prove.proofs.Working.{wants_memory, worked_so, risen_since}
use Rattle.fo_prove.proofs.running.run.Goals as goal

pub returns-in-Err : goal.returns-in-Err
returns-in-Err g c = wants_memory _ _ (started c.args.problem (start c.args.problem) (g.O.Sink.taken c.args.out.now) refl)

pub turns-init : goal.turns-init
turns-init g c =
    let before = g.O.Sink.taken c.args.out.now in
    let p = c.args.problem in
    record {
      problem = c.in-Ok.ensures.problem;
      state = c.in-Ok.ensures.state;
      so_far = subst (λ q. IsSoFar q (search_of c.in-Ok.state) before before) (sym c.in-Ok.ensures.problem) (started p (search_of c.in-Ok.state) before c.in-Ok.ensures.start);
      looked = none_looked c.in-Ok.state.clauses;
      never_falls = omega arith;
    }

pub returns-in-Some : goal.returns-in-Some
returns-in-Some g c =
    let before = g.O.Sink.taken c.args.out.now in
    let i = c.turns.invariant in
    let f = risen_since (g.O.Sink.faults c.args.out.now) (g.O.Sink.faults c.turns.out) (g.O.Sink.faults c.step.new.out) i.never_falls in
    let w = c.in-Some.ensures.stepped before i.so_far in
    worked_so f (rw i.problem at w)
