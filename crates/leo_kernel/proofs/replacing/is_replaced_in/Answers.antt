use Rattle.leo_kernel.proofs.ReplacedPaths.{right-differs, left-differs}
use Rattle.leo_kernel.proofs.replacing.is_replaced_in.Goals as goal

pub returns-then-ne : goal.returns-then-ne
returns-then-ne c = rw (c.in-Left.is) (right-differs c.args.bank.now c.is_sound.ensures.sound c.args.lit.now c.args.new.now c.args.path.now _ c.requires.right c.requires.new_right c.ne.result c.ne.ensures c.if-ne.true)

pub returns-then-ne-2 : goal.returns-then-ne-2
returns-then-ne-2 c = rw (c.in-Right.is) (left-differs c.args.bank.now c.is_sound.ensures.sound c.args.lit.now c.args.new.now c.args.path.now _ c.requires.left c.requires.new_left c.ne-in-Right.result c.ne-in-Right.ensures c.if-ne-2.true)
