use Rattle.std.proofs.Common.{arith, ◌-◌}
use Rattle.leo_tstp.proofs.Wording.{type-more, types-in, entry-at}
use Rattle.leo_tstp.proofs.namer.base_words.Goals as goal

pub put_type-requires : goal.put_type-requires
put_type-requires c =
    types-in c.args.bank.now c.args.names.now.types c.requires.types _ _ (entry-at (λ w. w.items) _ _ _ _ _ c.types-types.ensures c.in-Some.ensures.entry)

pub loop-place-preserved-in-Continue-1 : goal.loop-place-preserved-in-Continue-1
loop-place-preserved-in-Continue-1 c = (
  λ k. type-more c.args.bank.now c.args.names.now.types (c.loop-place.place - 1) c.loop-place.place k _ _ _ (omega arith)
      (entry-at (λ w. w.items) _ _ _ _ _ c.types-types.ensures c.in-Some.ensures.entry) (rw c.as_slice.ensures.value at c.in_ok-put_type.ensures) c.loop-place.invariant.0,
  omega arith,
)
