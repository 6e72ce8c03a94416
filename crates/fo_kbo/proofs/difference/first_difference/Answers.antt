use Rattle.std.proofs.Common.{refl}
use Rattle.fo_terms.proofs.AtPlaces.{IsPrefix-full}
use Rattle.fo_kbo.proofs.Levels.{rest-start, rest-inside, rest-step, difference-found}
use Rattle.fo_kbo.proofs.difference.first_difference.Goals as goal

pub loop-at-init : goal.loop-at-init
loop-at-init c = rest-start c.args.left.now c.args.right.now c.requires.left c.requires.right c.requires.same c.requires.different

pub end_of-left_end-requires-clause-full : goal.end_of-left_end-requires-clause-full
end_of-left_end-requires-clause-full c = IsPrefix-full c.args.left.now c.requires.left

pub end_of-left_end-requires-clause-inside : goal.end_of-left_end-requires-clause-inside
end_of-left_end-requires-clause-inside c = (rest-inside c.args.left.now c.args.right.now c.loop-at.at c.loop-at.invariant).0

pub end_of-right_end-requires-clause-full : goal.end_of-right_end-requires-clause-full
end_of-right_end-requires-clause-full c = IsPrefix-full c.args.right.now c.requires.right

pub end_of-right_end-requires-clause-inside : goal.end_of-right_end-requires-clause-inside
end_of-right_end-requires-clause-inside c = (rest-inside c.args.left.now c.args.right.now c.loop-at.at c.loop-at.invariant).1

pub returns-then-not-is_same : goal.returns-then-not-is_same
returns-then-not-is_same c =
    difference-found c.args.left.now c.args.right.now c.loop-at.at c.end_of-left_end.result c.end_of-right_end.result (IsPrefix-full c.args.left.now c.requires.left) (IsPrefix-full c.args.right.now c.requires.right)
    c.loop-at.invariant c.end_of-left_end.ensures c.end_of-right_end.ensures c.requires.left c.requires.right c.requires.same (λ e. let t = c.if-not-is_same.ensures.1 e in cc)

pub loop-at-preserved : goal.loop-at-preserved
loop-at-preserved c =
    rest-step c.args.left.now c.args.right.now c.loop-at.at c.end_of-left_end.result c.end_of-right_end.result (IsPrefix-full c.args.left.now c.requires.left) (IsPrefix-full c.args.right.now c.requires.right)
    c.loop-at.invariant c.end_of-left_end.ensures c.end_of-right_end.ensures (c.if-not-is_same.ensures.0 refl)
