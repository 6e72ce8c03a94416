use Rattle.leo_keep.proofs.Numbers.{no}
use Rattle.leo_keep.proofs.searching.subsumes_with.Goals as goal

pub returns-then-not-may_start : goal.returns-then-not-may_start
returns-then-not-may_start c = no (c.if-not-may_start.ensures c.args.clause.now c.args.target.clause.now c.requires.front c.requires.target.heads)
