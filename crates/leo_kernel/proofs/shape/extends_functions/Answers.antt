use Rattle.leo_kernel.proofs.ShapeRules.{func_ext-later}
use Rattle.leo_kernel.proofs.shape.extends_functions.Goals as goal

pub returns-clause-value : goal.returns-clause-value
returns-clause-value c = func_ext-later c.func_ext_claims.ensures.grows c.args.lines.now c.requires.lines c.args.lit c.requires.left c.requires.right c.args.step.now c.requires.step c.args.place c.args.abbr c.in_ok-holds-2.holds c.args.parent.now c.requires.parent c.args.lit.pos c.if-lit.false c.in_ok-holds-2.ensures.value
