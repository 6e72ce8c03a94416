use Rattle.leo_keep.proofs.Clauses.{lit-decides}
use Rattle.leo_keep.proofs.groups.has_heads.Goals as goal

pub returns : goal.returns
returns c = rw c.eq.ensures (lit-decides c.args.group.now.heads c.args.heads.now)
