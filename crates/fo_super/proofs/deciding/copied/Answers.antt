use Rattle.fo_text.specs.declared.problem.FoClause.{FoClause}
use Rattle.std.proofs.Common.{◌+◌}
use Rattle.fo_super.specs.Outcomes.{IsIdentical}
use Rattle.fo_super.proofs.Answering.{get-index, none-next, refuted}
use Rattle.fo_super.proofs.Keeping.{least-at, none-of}
use Rattle.fo_super.proofs.Noted.{as-long, as-many, none-below, none-copied}
use Rattle.fo_super.proofs.deciding.copied.Goals as goal

pub loop-number-init : goal.loop-number-init
loop-number-init c = (
  as-long c.args.kept.now c.args.masks.now c.requires.masks c.args.clause.now c.args.mask c.requires.mask c.next_equal-number.result c.next_equal-number.ensures.within,
  none-copied c.args.kept.now c.args.masks.now c.requires.masks c.args.clause.now c.args.mask c.requires.mask 0 c.next_equal-number.result (none-below (λ (k : FoClause). IsIdentical k c.args.clause.now) c.args.kept.now) c.next_equal-number.ensures.passed,
)

pub next_equal-number-requires-in-loop-number : goal.next_equal-number-requires-in-loop-number
next_equal-number-requires-in-loop-number c = as-many c.args.kept.now c.args.masks.now c.requires.masks c.args.clause.now c.args.mask c.requires.mask c.loop-number.number c.loop-number-test.true

pub returns-then-is_identical : goal.returns-then-is_identical
returns-then-is_identical c =
    least-at c.args.kept.now (λ (k : FoClause). IsIdentical k c.args.clause.now) c.loop-number.number c.index-kept-number.result c.loop-number.invariant.1 (get-index c.args.kept.now c.loop-number.number c.index-kept-number.result c.loop-number-test.true c.index-kept-number.is) (c.is_identical.ensures.0 c.if-is_identical.true)

pub loop-number-preserved : goal.loop-number-preserved
loop-number-preserved c = (
  as-long c.args.kept.now c.args.masks.now c.requires.masks c.args.clause.now c.args.mask c.requires.mask c.next_equal-number-in-loop-number.result c.next_equal-number-in-loop-number.ensures.within,
  none-copied c.args.kept.now c.args.masks.now c.requires.masks c.args.clause.now c.args.mask c.requires.mask (c.loop-number.number + 1) c.next_equal-number-in-loop-number.result
      (none-next (λ (k : FoClause). IsIdentical k c.args.clause.now) c.args.kept.now c.loop-number.number c.index-kept-number.result c.loop-number.invariant.1 (get-index c.args.kept.now c.loop-number.number c.index-kept-number.result c.loop-number-test.true c.index-kept-number.is) (refuted c.is_identical.result c.is_identical.ensures c.if-is_identical.false))
      c.next_equal-number-in-loop-number.ensures.passed,
)

pub returns : goal.returns
returns c = none-of c.args.kept.now (λ (k : FoClause). IsIdentical k c.args.clause.now) c.loop-number.number c.loop-number.invariant.1 c.loop-number-test.false
