use Rattle.std.proofs.Common.{length, ◌-◌, ◌≤◌}
use Rattle.fo_prove.specs.Reading.{most_read, HasNoEnd, IsGivenSo}
use Rattle.fo_prove.proofs.reading.read_text.Given as goal

abbrev pub invariant-loop-buffer : goal.invariant-loop-buffer
invariant-loop-buffer g l = record {
  within : length l.text.items ≤ most_read;
  no_end : HasNoEnd l.text.items;
  told : IsGivenSo (g.R.Source.given l.initial.source) (g.R.Source.given l.source) l.text.items;
  never_falls : g.R.Source.faults l.initial.source ≤ g.R.Source.faults l.source;
}

abbrev pub decreases-loop-buffer : goal.decreases-loop-buffer
decreases-loop-buffer g l = most_read - length l.text.items
