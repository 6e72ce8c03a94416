use Rattle.std.proofs.Common.{refl}
use Rattle.leo_kernel.proofs.ShapeRules.{logic-later}
use Rattle.leo_kernel.proofs.shape.takes_apart.Goals as goal

pub returns-in_ok-holds-in-AllF-clause-value : goal.returns-in_ok-holds-in-AllF-clause-value
returns-in_ok-holds-in-AllF-clause-value c = logic-later c.logic_claims.ensures.grows c.args.lines.now c.requires.lines c.args.lit c.requires.left c.requires.right c.args.step.now c.requires.step c.args.place c.args.abbr c.in_ok-holds-in-AllF.holds c.args.parent.now c.requires.parent c.args.kind c.args.kind refl c.in_ok-holds-in-AllF.ensures.value

pub returns-in_ok-holds-in-SomeT-clause-value : goal.returns-in_ok-holds-in-SomeT-clause-value
returns-in_ok-holds-in-SomeT-clause-value c = logic-later c.logic_claims-in-SomeT.ensures.grows c.args.lines.now c.requires.lines c.args.lit c.requires.left c.requires.right c.args.step.now c.requires.step c.args.place c.args.abbr c.in_ok-holds-in-SomeT.holds c.args.parent.now c.requires.parent c.args.kind c.args.kind refl c.in_ok-holds-in-SomeT.ensures.value
