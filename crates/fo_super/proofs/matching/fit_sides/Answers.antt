use Rattle.fo_super.specs.Matching.{BothFit, Fits}
use Rattle.fo_super.proofs.Narrowing.{both, never}
use Rattle.fo_super.proofs.Reading.{too-long}
use Rattle.fo_super.proofs.matching.fit_sides.Goals as goal

pub returns-then-is_too_long : goal.returns-then-is_too_long
returns-then-is_too_long c =
    never c.args.clause.now.vars c.args.other.now.vars c.args.syms.now c.args.bindings.now.items
    (BothFit c.args.clause.now.vars c.args.other.now.vars c.args.syms.now c.args.literal.now.left c.args.left.now c.args.literal.now.right c.args.right.now) c.requires.sound
    (λ s o q. too-long s c.args.literal.now.left c.args.left.now (rw c.if-is_too_long.true at c.is_too_long.ensures) q.0.1)

pub returns-then-is_too_long-2 : goal.returns-then-is_too_long-2
returns-then-is_too_long-2 c =
    never c.args.clause.now.vars c.args.other.now.vars c.args.syms.now c.args.bindings.now.items
    (BothFit c.args.clause.now.vars c.args.other.now.vars c.args.syms.now c.args.literal.now.left c.args.left.now c.args.literal.now.right c.args.right.now) c.requires.sound
    (λ s o q. too-long s c.args.literal.now.right c.args.right.now (rw c.if-is_too_long-2.true at c.is_too_long-2.ensures) q.1.1)

pub returns : goal.returns
returns c =
    both c.args.clause.now.vars c.args.other.now.vars c.args.syms.now c.in_ok-first.first c.in_ok-second.second
    (Fits c.args.clause.now.vars c.args.other.now.vars c.args.syms.now c.args.literal.now.left c.args.left.now)
    (Fits c.args.clause.now.vars c.args.other.now.vars c.args.syms.now c.args.literal.now.right c.args.right.now)
    (BothFit c.args.clause.now.vars c.args.other.now.vars c.args.syms.now c.args.literal.now.left c.args.left.now c.args.literal.now.right c.args.right.now)
    c.if-not-first.false c.in_ok-first.ensures c.in_ok-second.ensures (λ s x y. (x, y)) (λ s z. z)
