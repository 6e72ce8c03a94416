use Rattle.std.proofs.Common.{map}
use Rattle.leo_terms.specs.Contents.{type_at, tree_at}
use Rattle.leo_keep.specs.Matching.{BothFit}
use Rattle.leo_keep.proofs.Matched.{both-fit, too-heavy}
use Rattle.leo_keep.proofs.matching.fit_sides.Goals as goal

pub returns-then-is_too_heavy : goal.returns-then-is_too_heavy
returns-then-is_too_heavy c =
    too-heavy c.args.bank.now (map (type_at c.args.bank.now) c.args.vars.now) c.args.bindings.now.items (tree_at c.args.bank.now c.args.lit.now.left) (tree_at c.args.bank.now c.args.left)
    (BothFit (tree_at c.args.bank.now c.args.lit.now.left) (tree_at c.args.bank.now c.args.left) (tree_at c.args.bank.now c.args.lit.now.right) (tree_at c.args.bank.now c.args.right))
    c.requires.sound c.requires.left_over (rw c.if-is_too_heavy.true at c.is_too_heavy.ensures) (λ terms h. h.0)

pub returns-then-is_too_heavy-2 : goal.returns-then-is_too_heavy-2
returns-then-is_too_heavy-2 c =
    too-heavy c.args.bank.now (map (type_at c.args.bank.now) c.args.vars.now) c.args.bindings.now.items (tree_at c.args.bank.now c.args.lit.now.right) (tree_at c.args.bank.now c.args.right)
    (BothFit (tree_at c.args.bank.now c.args.lit.now.left) (tree_at c.args.bank.now c.args.left) (tree_at c.args.bank.now c.args.lit.now.right) (tree_at c.args.bank.now c.args.right))
    c.requires.sound c.requires.right_over (rw c.if-is_too_heavy-2.true at c.is_too_heavy-2.ensures) (λ terms h. h.1)

pub returns : goal.returns
returns c =
    both-fit c.args.bank.now (map (type_at c.args.bank.now) c.args.vars.now) c.in_ok-first.first c.in_ok-second.second (tree_at c.args.bank.now c.args.lit.now.left) (tree_at c.args.bank.now c.args.left) (tree_at c.args.bank.now c.args.lit.now.right) (tree_at c.args.bank.now c.args.right)
    c.if-not-first.false c.in_ok-first.ensures c.in_ok-second.ensures
