use Rattle.fo_kbo.proofs.Weighing.{heads-longer, heads-shorter}
use Rattle.fo_kbo.proofs.heads.compare_heads.Goals as goal

pub returns-then-left-right : goal.returns-then-left-right
returns-then-left-right c = heads-longer c.args.left.now c.args.right.now c.requires.left c.requires.right c.if-left-right.true

pub returns-then-left-right-2 : goal.returns-then-left-right-2
returns-then-left-right-2 c = heads-shorter c.args.left.now c.args.right.now c.requires.left c.requires.right c.if-left-right-2.true
