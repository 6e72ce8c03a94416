use Rattle.leo_clause.specs.Trees.{literal_at}
use Rattle.leo_para.specs.Members.{members_of_target}
use Rattle.leo_para.proofs.Looping.{each-next, lit-within}
use Rattle.leo_para.proofs.due.put_equation_side.Goals as goal

pub put_target-requires-clause-lit : goal.put_target-requires-clause-lit
put_target-requires-clause-lit c = lit-within c.args.bank.now c.args.targets.now c.requires.targets c.loop-number.number c.index-targets-number.result c.loop-number-test.true c.index-targets-number.is

pub loop-number-preserved : goal.loop-number-preserved
loop-number-preserved c =
    each-next (literal_at c.args.bank.now) (members_of_target c.args.equation.now.number (literal_at c.args.bank.now c.args.equation.now.lit) c.args.equation.now.side) c.args.targets.now c.loop-number.number c.index-targets-number.result _ _ _
    c.loop-number.invariant c.loop-number-test.true c.index-targets-number.is c.in_ok-put_target.ensures.found
