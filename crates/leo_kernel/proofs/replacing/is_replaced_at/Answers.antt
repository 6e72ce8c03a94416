use Rattle.leo_terms.proofs.CallerLemmas.{term-present}
use Rattle.leo_kernel.proofs.PlainRules.{terms-decide}
use Rattle.leo_kernel.proofs.ReplacedPaths.{path-childless, path-other, path-step, path-end, leads-next}
use Rattle.leo_kernel.proofs.replacing.is_replaced_at.Goals as goal

pub returns-in_default-child : goal.returns-in_default-child
returns-in_default-child c =
    let b = c.is_sound.ensures.sound in
    path-childless _ _ _ _ _ c.args.path.now c.loop-number.number-index c.loop-number.invariant.3 c.loop-number-test.true _ c.in-Some.ensures.value (term-present b c.args.r c.requires.by) (term-present b c.in-Some.old c.in-Some.ensures.within) c.in_default-child.ensures.value

pub returns-then-not-has_child : goal.returns-then-not-has_child
returns-then-not-has_child c =
    let b = c.is_sound.ensures.sound in
    path-other _ _ _ _ _ c.args.path.now c.loop-number.number-index c.loop-number.invariant.3 c.loop-number-test.true _ c.in-Some.ensures.value (term-present b c.args.r c.requires.by) (term-present b c.in-Some.old c.in-Some.ensures.within) _ c.in-Some-child.ensures.value c.has_child.result c.has_child.ensures c.if-not-has_child.true

pub loop-number-preserved : goal.loop-number-preserved
loop-number-preserved c =
    let b = c.is_sound.ensures.sound in (
      c.in-Some.ensures.within,
      c.in-Some-child.ensures.within,
      leads-next _ _ _ _ _ c.args.path.now c.loop-number.number-index c.loop-number.invariant.3 c.loop-number-test.true _ c.in-Some.ensures.value c.loop-number.invariant.2,
      path-step _ _ _ _ _ c.args.path.now c.loop-number.number-index c.loop-number.invariant.3 c.loop-number-test.true _ c.in-Some.ensures.value (term-present b c.args.r c.requires.by) (term-present b c.in-Some.old c.in-Some.ensures.within) _ c.in-Some-child.ensures.value (c.has_child.ensures.0 c.if-not-has_child.false),
    )

pub returns : goal.returns
returns c =
    let b = c.is_sound.ensures.sound in
    path-end _ _ _ _ _ c.args.path.now c.loop-number.number-index c.loop-number.invariant.3 c.loop-number-test.false c.eq.result (terms-decide c.args.bank.now b c.loop-number.new_at c.args.r c.loop-number.invariant.1 c.requires.by c.eq.result c.eq.ensures)
