use Rattle.leo_para.proofs.Joined.{left-replaced, right-replaced}
use Rattle.leo_para.proofs.replacing.replaced_in.Goals as goal

pub returns-in_ok-left-in-Left-clause-made : goal.returns-in_ok-left-in-Left-clause-made
returns-in_ok-left-in-Left-clause-made c = left-replaced c.replaced_at.ensures.grows c.args.lit.now c.args.side c.args.path.now c.args.by c.in_ok-left-in-Left.left _ c.in-Left.is c.requires.lit c.in_ok-left-in-Left.ensures.made

pub returns-in_ok-right-in-Right-clause-made : goal.returns-in_ok-right-in-Right-clause-made
returns-in_ok-right-in-Right-clause-made c = right-replaced c.replaced_at-in-Right.ensures.grows c.args.lit.now c.args.side c.args.path.now c.args.by c.in_ok-right-in-Right.right _ c.in-Right.is c.requires.lit c.in_ok-right-in-Right.ensures.made
