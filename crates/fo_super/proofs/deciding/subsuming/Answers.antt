use Rattle.fo_text.specs.declared.problem.FoClause.{FoClause}
use Rattle.std.proofs.Common.{◌+◌}
use Rattle.fo_super.specs.Subsumption.{Subsumes}
use Rattle.fo_super.proofs.Answering.{get-index, none-next, refuted}
use Rattle.fo_super.proofs.Keeping.{least-at, none-of}
use Rattle.fo_super.proofs.Noted.{as-long, as-many, none-below, none-subsuming}
use Rattle.fo_super.proofs.deciding.subsuming.Goals as goal

pub loop-number-init : goal.loop-number-init
loop-number-init c = (
  as-long c.args.kept.now c.args.masks.now c.requires.masks c.args.clause.now c.args.mask c.requires.mask c.next_within-number.result c.next_within-number.ensures.within,
  none-subsuming c.args.kept.now c.args.masks.now c.requires.masks c.args.clause.now c.args.mask c.requires.mask c.args.syms.now 0 c.next_within-number.result (none-below (λ (k : FoClause). Subsumes c.args.syms.now k c.args.clause.now) c.args.kept.now) c.next_within-number.ensures.passed,
)

pub next_within-number-requires-in-loop-number : goal.next_within-number-requires-in-loop-number
next_within-number-requires-in-loop-number c = as-many c.args.kept.now c.args.masks.now c.requires.masks c.args.clause.now c.args.mask c.requires.mask c.loop-number.number c.loop-number-test.true

pub returns-then-found : goal.returns-then-found
returns-then-found c =
    least-at c.args.kept.now (λ (k : FoClause). Subsumes c.args.syms.now k c.args.clause.now) c.loop-number.number c.index-kept-number.result c.loop-number.invariant.1 (get-index c.args.kept.now c.loop-number.number c.index-kept-number.result c.loop-number-test.true c.index-kept-number.is) (c.in_ok-found.ensures.0 c.if-found.true)

pub loop-number-preserved : goal.loop-number-preserved
loop-number-preserved c = (
  as-long c.args.kept.now c.args.masks.now c.requires.masks c.args.clause.now c.args.mask c.requires.mask c.next_within-number-in-loop-number.result c.next_within-number-in-loop-number.ensures.within,
  none-subsuming c.args.kept.now c.args.masks.now c.requires.masks c.args.clause.now c.args.mask c.requires.mask c.args.syms.now (c.loop-number.number + 1) c.next_within-number-in-loop-number.result
      (none-next (λ (k : FoClause). Subsumes c.args.syms.now k c.args.clause.now) c.args.kept.now c.loop-number.number c.index-kept-number.result c.loop-number.invariant.1 (get-index c.args.kept.now c.loop-number.number c.index-kept-number.result c.loop-number-test.true c.index-kept-number.is) (refuted c.in_ok-found.found c.in_ok-found.ensures c.if-found.false))
      c.next_within-number-in-loop-number.ensures.passed,
)

pub returns : goal.returns
returns c = none-of c.args.kept.now (λ (k : FoClause). Subsumes c.args.syms.now k c.args.clause.now) c.loop-number.number c.loop-number.invariant.1 c.loop-number-test.false
