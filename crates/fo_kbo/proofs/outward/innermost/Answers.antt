use Rattle.std.proofs.Common.{◌∙◌}
use Rattle.fo_terms.specs.Places.{term_at}
use Rattle.fo_terms.proofs.AtPlaces.{IsPrefix-full}
use Rattle.fo_terms.proofs.Spans.{slice_range-term}
use Rattle.fo_kbo.proofs.Comparing.{IsPrefix-is, term_of-is}
use Rattle.fo_kbo.proofs.Around.{unlike-terms}
use Rattle.fo_kbo.proofs.outward.innermost.Goals as goal

pub end_of-left_end-requires-clause-full : goal.end_of-left_end-requires-clause-full
end_of-left_end-requires-clause-full c = IsPrefix-full c.args.left.now c.requires.left

pub end_of-right_end-requires-clause-full : goal.end_of-right_end-requires-clause-full
end_of-right_end-requires-clause-full c = IsPrefix-full c.args.right.now c.requires.right

pub compare_heads-heads-requires-clause-left : goal.compare_heads-heads-requires-clause-left
compare_heads-heads-requires-clause-left c = IsPrefix-is c.part.result.now (term_at c.args.left.now c.args.at) (c.part.ensures ∙ slice_range-term c.args.left.now c.args.at c.end_of-left_end.result (IsPrefix-full c.args.left.now c.requires.left) c.end_of-left_end.ensures)

pub compare_heads-heads-requires-clause-right : goal.compare_heads-heads-requires-clause-right
compare_heads-heads-requires-clause-right c = IsPrefix-is c.part-2.result.now (term_at c.args.right.now c.args.at) (c.part-2.ensures ∙ slice_range-term c.args.right.now c.args.at c.end_of-right_end.result (IsPrefix-full c.args.right.now c.requires.right) c.end_of-right_end.ensures)

pub order_by-order-requires-clause-different : goal.order_by-order-requires-clause-different
order_by-order-requires-clause-different c = unlike-terms c.args.left.now c.args.right.now c.args.at c.end_of-left_end.result c.end_of-right_end.result (IsPrefix-full c.args.left.now c.requires.left) (IsPrefix-full c.args.right.now c.requires.right) c.end_of-left_end.ensures c.end_of-right_end.ensures c.requires.unlike

pub order_by-order-requires-clause-heads : goal.order_by-order-requires-clause-heads
order_by-order-requires-clause-heads c =
    rw (term_of-is c.part.result.now (term_at c.args.left.now c.args.at) (c.part.ensures ∙ slice_range-term c.args.left.now c.args.at c.end_of-left_end.result (IsPrefix-full c.args.left.now c.requires.left) c.end_of-left_end.ensures), term_of-is c.part-2.result.now (term_at c.args.right.now c.args.at) (c.part-2.ensures ∙ slice_range-term c.args.right.now c.args.at c.end_of-right_end.result (IsPrefix-full c.args.right.now c.requires.right) c.end_of-right_end.ensures)) at c.compare_heads-heads.ensures

pub returns-clause-ordered : goal.returns-clause-ordered
returns-clause-ordered c = record { left = c.end_of-left_end.ensures; right = c.end_of-right_end.ensures; different = unlike-terms c.args.left.now c.args.right.now c.args.at c.end_of-left_end.result c.end_of-right_end.result (IsPrefix-full c.args.left.now c.requires.left) (IsPrefix-full c.args.right.now c.requires.right) c.end_of-left_end.ensures c.end_of-right_end.ensures c.requires.unlike; order = c.order_by-order.ensures }
