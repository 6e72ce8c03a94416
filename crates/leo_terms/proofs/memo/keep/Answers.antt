use Rattle.std.proofs.Common.{rules}
use Rattle.leo_terms.proofs.MemoLemmas.{insert-entry}
use Rattle.leo_terms.proofs.memo.keep.Goals as goal

pub returns : goal.returns
returns g c = record {
  entries = λ i k r e. insert-entry g.K.PartialEq.eq (λ x. search rules) c.args.table.now.entries c.args.key c.args.term i k r (rw c.in_ok-insert.ensures.entries at e);
}
