use Rattle.leo_tstp.specs.Known.{IsKnown}
use Rattle.leo_tstp.proofs.reading.lexicon.learn_types.Given as goal

abbrev pub invariant-loop-place : goal.invariant-loop-place
invariant-loop-place l = IsKnown l.bank l.known
