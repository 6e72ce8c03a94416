use Rattle.std.proofs.Common.{◌∙◌}
use Rattle.fo_terms.specs.Places.{term_at}
use Rattle.fo_terms.proofs.AtPlaces.{IsPrefix-full}
use Rattle.fo_terms.proofs.Spans.{slice_range-term}
use Rattle.fo_kbo.proofs.Comparing.{IsPrefix-is, term_of-is}
use Rattle.fo_kbo.proofs.Levels.{greater_covers}
use Rattle.fo_kbo.proofs.outward.order_by.Goals as goal

pub compare_different-requires-clause-first : goal.compare_different-requires-clause-first
compare_different-requires-clause-first c = IsPrefix-is c.part.result.now (term_at c.args.left.now c.args.at) (c.part.ensures ∙ slice_range-term c.args.left.now c.args.at c.args.left_end (IsPrefix-full c.args.left.now c.requires.left) c.requires.tallied.left_behind)

pub compare_different-requires-clause-second : goal.compare_different-requires-clause-second
compare_different-requires-clause-second c = IsPrefix-is c.part-in-Same.result.now (term_at c.args.right.now c.args.at) (c.part-in-Same.ensures ∙ slice_range-term c.args.right.now c.args.at c.args.right_end (IsPrefix-full c.args.right.now c.requires.right) c.requires.tallied.right_behind)

pub compare_different-requires-clause-different : goal.compare_different-requires-clause-different
compare_different-requires-clause-different c = rw (term_of-is c.part.result.now (term_at c.args.left.now c.args.at) (c.part.ensures ∙ slice_range-term c.args.left.now c.args.at c.args.left_end (IsPrefix-full c.args.left.now c.requires.left) c.requires.tallied.left_behind), term_of-is c.part-in-Same.result.now (term_at c.args.right.now c.args.at) (c.part-in-Same.ensures ∙ slice_range-term c.args.right.now c.args.at c.args.right_end (IsPrefix-full c.args.right.now c.requires.right) c.requires.tallied.right_behind)) c.requires.different

pub returns-else-covers_at : goal.returns-else-covers_at
returns-else-covers_at c = (
  (rw c.in-First.is at c.requires.heads).1,
  c.requires.different,
  (λ g. let t = c.if-covers_at.ensures.1 (greater_covers (term_at c.args.left.now c.args.at) (term_at c.args.right.now c.args.at) g) in cc),
)

pub returns-else-covers_at-2 : goal.returns-else-covers_at-2
returns-else-covers_at-2 c = (
  (λ g. let t = c.if-covers_at-2.ensures.1 (greater_covers (term_at c.args.right.now c.args.at) (term_at c.args.left.now c.args.at) g) in cc),
  c.requires.different,
  (rw c.in-Second.is at c.requires.heads).1,
)

pub returns-in-Same : goal.returns-in-Same
returns-in-Same c = rw (term_of-is c.part.result.now (term_at c.args.left.now c.args.at) (c.part.ensures ∙ slice_range-term c.args.left.now c.args.at c.args.left_end (IsPrefix-full c.args.left.now c.requires.left) c.requires.tallied.left_behind), term_of-is c.part-in-Same.result.now (term_at c.args.right.now c.args.at) (c.part-in-Same.ensures ∙ slice_range-term c.args.right.now c.args.at c.args.right_end (IsPrefix-full c.args.right.now c.requires.right) c.requires.tallied.right_behind)) at c.compare_different.ensures
