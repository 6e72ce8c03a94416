use Rattle.leo_terms.proofs.CallerLemmas.{are_terms-kept, extends-trans}
use Rattle.leo_kernel.proofs.LinesGrowing.{lines-grow, step-grow}
use Rattle.leo_kernel.proofs.ShapeRules.{parents-later, literals-later, place-later, types-later, shape-earlier}
use Rattle.leo_kernel.proofs.shape.has_shape.Goals as goal

pub concludes-requires-clause-hypotheses : goal.concludes-requires-clause-hypotheses
concludes-requires-clause-hypotheses c = are_terms-kept c.make_truths.ensures.grows c.args.hyps.now c.requires.hypotheses

pub concludes-requires-clause-lines : goal.concludes-requires-clause-lines
concludes-requires-clause-lines c = lines-grow c.make_truths.ensures.grows c.args.lines.now c.requires.lines

pub concludes-requires-clause-step : goal.concludes-requires-clause-step
concludes-requires-clause-step c = step-grow c.make_truths.ensures.grows c.args.step.now c.requires.step

pub concludes-requires-clause-parents : goal.concludes-requires-clause-parents
concludes-requires-clause-parents c = parents-later c.make_truths.ensures.grows c.args.lines.now c.requires.lines c.args.hyps.now c.requires.hypotheses c.args.step.now c.requires.step c.requires.parents

pub concludes-requires-clause-literals : goal.concludes-requires-clause-literals
concludes-requires-clause-literals c = literals-later c.make_truths.ensures.grows c.args.lines.now c.requires.lines c.args.hyps.now c.requires.hypotheses c.args.step.now c.requires.step c.requires.literals

pub concludes-requires-clause-place : goal.concludes-requires-clause-place
concludes-requires-clause-place c = place-later c.make_truths.ensures.grows c.args.lines.now c.requires.lines c.args.hyps.now c.requires.hypotheses c.args.step.now c.requires.step c.requires.place

pub concludes-requires-clause-types : goal.concludes-requires-clause-types
concludes-requires-clause-types c = types-later c.make_truths.ensures.grows c.args.lines.now c.requires.lines c.args.hyps.now c.requires.hypotheses c.args.step.now c.requires.step c.requires.types

pub returns-in_err-holds-clause-grows : goal.returns-in_err-holds-clause-grows
returns-in_err-holds-clause-grows c = extends-trans c.make_truths.ensures.grows c.concludes.ensures.grows

pub returns-clause-value : goal.returns-clause-value
returns-clause-value c = shape-earlier c.make_truths.ensures.grows c.args.lines.now c.requires.lines c.args.hyps.now c.requires.hypotheses c.args.step.now c.requires.step c.in_ok-holds.holds c.in_ok-holds.ensures.value

pub returns-clause-grows : goal.returns-clause-grows
returns-clause-grows c = extends-trans c.make_truths.ensures.grows c.concludes.ensures.grows
