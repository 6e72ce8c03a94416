use Rattle.std.proofs.Common.{arith, ◌-◌}
use Rattle.leo_tstp.proofs.Wording.{symbol-more, entry-at}
use Rattle.leo_tstp.proofs.namer.symbol_words.Goals as goal

pub loop-place-preserved-in-Continue-1 : goal.loop-place-preserved-in-Continue-1
loop-place-preserved-in-Continue-1 c = (
  λ k. symbol-more c.args.bank.now c.args.names.now.constants (c.loop-place.place - 1) c.loop-place.place k _ _ _ (omega arith)
      (entry-at (λ w. w.items) _ _ _ _ _ c.constants-constants.ensures c.in-Some.ensures.entry) (rw c.as_slice.ensures.value at c.in_ok-put_symbol.ensures) c.loop-place.invariant.0,
  omega arith,
)
