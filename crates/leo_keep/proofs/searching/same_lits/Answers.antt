use Rattle.std.proofs.lemmas.Slice.Eq.{slice_eq-Decides}
use Rattle.leo_keep.proofs.Clauses.{lit-decides}
use Rattle.leo_keep.proofs.searching.same_lits.Goals as goal

pub returns : goal.returns
returns c = slice_eq-Decides lit-decides c.args.xs.now c.args.ys.now c.eq.result c.eq.ensures
