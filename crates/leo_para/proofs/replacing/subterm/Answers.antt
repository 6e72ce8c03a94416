use Rattle.leo_kernel.proofs.Paths.{path-next, path-fails, path-ends}
use Rattle.leo_para.proofs.replacing.subterm.Goals as goal

pub loop-number-preserved : goal.loop-number-preserved
loop-number-preserved c = (c.in-Some.ensures.within, path-next _ _ c.args.path.now c.loop-number.number-index c.loop-number.invariant.1 _ c.loop-number-test.true c.in-Some.ensures.value)

pub returns-in-None-clause-value : goal.returns-in-None-clause-value
returns-in-None-clause-value c = path-fails _ _ c.args.path.now c.loop-number.number-index c.loop-number.invariant.1 c.loop-number-test.true c.in-None.ensures.value

pub returns-clause-value : goal.returns-clause-value
returns-clause-value c = path-ends _ _ c.args.path.now c.loop-number.number-index c.loop-number.invariant.1 c.loop-number-test.false
