use Rattle.leo_terms.proofs.CallerLemmas.{are_terms-kept, extends-itself, extends-trans}
use Rattle.leo_kernel.proofs.TypedLits.{not-both}
use Rattle.leo_kernel.proofs.LinesGrowing.{lines-grow, step-grow}
use Rattle.leo_kernel.proofs.ShapeRules.{parents-later, literals-later, place-later, types-later, shape-earlier}
use Rattle.leo_kernel.proofs.check.check_step.Goals as goal

pub returns-then-not-has_parents-clause-grows : goal.returns-then-not-has_parents-clause-grows
returns-then-not-has_parents-clause-grows c = extends-itself c.is_sound.ensures.sound

pub returns-then-not-has_literals-clause-grows : goal.returns-then-not-has_literals-clause-grows
returns-then-not-has_literals-clause-grows c = extends-itself c.is_sound.ensures.sound

pub returns-then-not-has_place-clause-grows : goal.returns-then-not-has_place-clause-grows
returns-then-not-has_place-clause-grows c = extends-itself c.is_sound.ensures.sound

pub returns-in_err-typed-clause-grows : goal.returns-in_err-typed-clause-grows
returns-in_err-typed-clause-grows c = extends-itself c.is_sound.ensures.sound

pub returns-then-not-typed-clause-grows : goal.returns-then-not-typed-clause-grows
returns-then-not-typed-clause-grows c = extends-itself c.is_sound.ensures.sound

pub has_shape-requires-clause-hypotheses : goal.has_shape-requires-clause-hypotheses
has_shape-requires-clause-hypotheses c = are_terms-kept c.has_symbol.ensures.grows c.args.hyps.now c.requires.hypotheses

pub has_shape-requires-clause-lines : goal.has_shape-requires-clause-lines
has_shape-requires-clause-lines c = lines-grow c.has_symbol.ensures.grows c.args.lines.now c.requires.lines

pub has_shape-requires-clause-step : goal.has_shape-requires-clause-step
has_shape-requires-clause-step c = step-grow c.has_symbol.ensures.grows c.args.step.now c.requires.step

pub has_shape-requires-clause-parents : goal.has_shape-requires-clause-parents
has_shape-requires-clause-parents c = parents-later c.has_symbol.ensures.grows c.args.lines.now c.requires.lines c.args.hyps.now c.requires.hypotheses c.args.step.now c.requires.step (c.has_parents.ensures.0 c.if-not-has_parents.false)

pub has_shape-requires-clause-literals : goal.has_shape-requires-clause-literals
has_shape-requires-clause-literals c = literals-later c.has_symbol.ensures.grows c.args.lines.now c.requires.lines c.args.hyps.now c.requires.hypotheses c.args.step.now c.requires.step (c.has_literals.ensures.0 c.if-not-has_literals.false)

pub has_shape-requires-clause-place : goal.has_shape-requires-clause-place
has_shape-requires-clause-place c = place-later c.has_symbol.ensures.grows c.args.lines.now c.requires.lines c.args.hyps.now c.requires.hypotheses c.args.step.now c.requires.step (c.has_place.ensures.0 c.if-not-has_place.false)

pub has_shape-requires-clause-types : goal.has_shape-requires-clause-types
has_shape-requires-clause-types c = types-later c.has_symbol.ensures.grows c.args.lines.now c.requires.lines c.args.hyps.now c.requires.hypotheses c.args.step.now c.requires.step (c.in_ok-typed.ensures.0 c.if-not-typed.false)

pub returns-in_err-shaped-clause-grows : goal.returns-in_err-shaped-clause-grows
returns-in_err-shaped-clause-grows c = extends-trans c.has_symbol.ensures.grows c.has_shape.ensures.grows

pub returns-then-not-shaped-clause-grows : goal.returns-then-not-shaped-clause-grows
returns-then-not-shaped-clause-grows c = extends-trans c.has_symbol.ensures.grows c.has_shape.ensures.grows

pub returns-clause-grows : goal.returns-clause-grows
returns-clause-grows c = extends-trans c.has_symbol.ensures.grows c.has_shape.ensures.grows

pub returns-then-not-shaped-clause-verdict : goal.returns-then-not-shaped-clause-verdict
returns-then-not-shaped-clause-verdict c = record {
  before = (c.has_parents.ensures.0 c.if-not-has_parents.false, c.has_literals.ensures.0 c.if-not-has_literals.false, c.has_place.ensures.0 c.if-not-has_place.false, c.in_ok-typed.ensures.0 c.if-not-typed.false, c.in_ok-named.ensures.value.0 c.if-not-named.false);
  fails = not-both c.in_ok-shaped.shaped (shape-earlier c.has_symbol.ensures.grows c.args.lines.now c.requires.lines c.args.hyps.now c.requires.hypotheses c.args.step.now c.requires.step c.in_ok-shaped.shaped c.in_ok-shaped.ensures.value) c.if-not-shaped.true;
}

pub returns-clause-verdict : goal.returns-clause-verdict
returns-clause-verdict c = record {
  parents = c.has_parents.ensures.0 c.if-not-has_parents.false;
  literals = c.has_literals.ensures.0 c.if-not-has_literals.false;
  place = c.has_place.ensures.0 c.if-not-has_place.false;
  types = c.in_ok-typed.ensures.0 c.if-not-typed.false;
  symbols = c.in_ok-named.ensures.value.0 c.if-not-named.false;
  shape = (shape-earlier c.has_symbol.ensures.grows c.args.lines.now c.requires.lines c.args.hyps.now c.requires.hypotheses c.args.step.now c.requires.step c.in_ok-shaped.shaped c.in_ok-shaped.ensures.value).0 c.if-not-shaped.false;
}
