use Rattle.std.proofs.Common.{length, ◌-◌, ◌≡◌, ◌++◌, ◌≤◌, take}
use Rattle.std.specs.Option.{option_map}
use Rattle.fo_prove.proofs.writing.put_piece.Given as goal

abbrev pub invariant-loop-done : goal.invariant-loop-done
invariant-loop-done g l = record {
  within : l.done ≤ length l.piece;
  taken : g.O.Sink.taken l.out ≡ option_map (λ bytes. bytes ++ take l.done l.piece) (g.O.Sink.taken l.initial.out);
  never_falls : g.O.Sink.faults l.initial.out ≤ g.O.Sink.faults l.out;
}

abbrev pub decreases-loop-done : goal.decreases-loop-done
decreases-loop-done g l = length l.piece - l.done
