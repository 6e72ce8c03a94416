use Rattle.leo_kernel.proofs.Replaced.{replaced-by_parts}
use Rattle.leo_kernel.proofs.compare.is_replaced.Goals as goal

pub returns : goal.returns
returns c = replaced-by_parts c.same_lits-3.result c.same_lits.result c.same_lits-2.result c.args.lits.now c.args.old.now c.args.new.now c.split_at.result.0.now c.split_at.result.1.now c.split_at-2.result.0.now c.split_at-2.result.1.now c.args.place c.requires c.split_at.ensures.front c.split_at.ensures.back c.split_at-2.ensures.front c.split_at-2.ensures.back c.same_lits.ensures c.if-not-same_lits.false c.same_lits-2.ensures c.if-not-same_lits-2.false c.same_lits-3.ensures
