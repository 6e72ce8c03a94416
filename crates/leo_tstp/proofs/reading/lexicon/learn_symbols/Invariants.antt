use Rattle.leo_terms.specs.Contents.{Extends}
use Rattle.leo_tstp.specs.Known.{IsKnown}
use Rattle.leo_tstp.proofs.reading.lexicon.learn_symbols.Given as goal

abbrev pub invariant-loop-place : goal.invariant-loop-place
invariant-loop-place l = record {
  known : IsKnown l.bank l.known;
  grows : Extends l.fn.bank l.bank;
}
