use Rattle.std.proofs.lemmas.Slice.Eq.{slice_eq-Decides}
use Rattle.leo_kernel.proofs.Same.{number-decides}
use Rattle.leo_kernel.proofs.compare.same_types.Goals as goal

pub returns : goal.returns
returns c = slice_eq-Decides number-decides c.args.xs.now c.args.ys.now c.eq.result c.eq.ensures
