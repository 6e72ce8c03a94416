use Rattle.std.proofs.lemmas.Slice.Eq.{slice_eq-Decides}
use Rattle.leo_keep.proofs.Numbers.{number-decides}
use Rattle.leo_keep.proofs.searching.same_types.Goals as goal

pub returns : goal.returns
returns c = slice_eq-Decides number-decides c.args.xs.now c.args.ys.now c.eq.result c.eq.ensures
