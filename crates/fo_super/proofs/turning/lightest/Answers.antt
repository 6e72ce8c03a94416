use Rattle.fo_super.proofs.Choosing.{lightest-all}
use Rattle.fo_super.proofs.Weighing.{least-within, lightest-init, lightest-more, more-within, named-so}
use Rattle.fo_super.proofs.turning.lightest.Goals as goal

pub loop-place-init : goal.loop-place-init
loop-place-init c = (
  least-within c.weighed_at-best.ensures.place,
  λ clauses e.
      lightest-init clauses c.args.passive.now (named-so c.args.weights.now clauses c.args.passive.now e c.requires.named) c.requires.rising c.weighed_at-best.result c.requires.some c.weighed_at-best.ensures.place (λ n d. c.weighed_at-best.ensures.weight clauses n d e),
)

pub loop-place-preserved : goal.loop-place-preserved
loop-place-preserved c = (
  more-within c.loop-place.best c.weighed_at.result c.lighter-best.result c.loop-place.place c.loop-place.invariant.0 c.weighed_at.ensures.place c.lighter-best.ensures.second c.lighter-best.ensures.first,
  λ clauses e.
      lightest-more clauses c.args.passive.now (named-so c.args.weights.now clauses c.args.passive.now e c.requires.named) c.requires.rising c.loop-place.best c.weighed_at.result c.lighter-best.result c.loop-place.place (c.loop-place.invariant.1 clauses e) c.loop-place-test.true
      c.weighed_at.ensures.place (λ n d. c.weighed_at.ensures.weight clauses n d e) c.lighter-best.ensures.second c.lighter-best.ensures.first,
)

pub returns-clause-first : goal.returns-clause-first
returns-clause-first c = λ clauses g e. lightest-all clauses c.args.passive.now c.loop-place.best.place c.loop-place.place c.loop-place.best.weight (c.loop-place.invariant.1 clauses e) c.loop-place-test.false g
