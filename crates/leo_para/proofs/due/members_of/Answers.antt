use Rattle.std.proofs.Common.{[], map}
use Rattle.leo_clause.specs.Trees.{literal_at}
use Rattle.leo_para.specs.Members.{members_of_equation}
use Rattle.leo_para.proofs.Looping.{each-next, lit-within}
use Rattle.leo_para.proofs.due.members_of.Goals as goal

pub put_equation-requires-clause-lit : goal.put_equation-requires-clause-lit
put_equation-requires-clause-lit c = lit-within c.args.bank.now c.args.equations.now c.requires.equations c.loop-number.number c.index-equations-number.result c.loop-number-test.true c.index-equations-number.is

pub loop-number-preserved : goal.loop-number-preserved
loop-number-preserved c =
    each-next (literal_at c.args.bank.now) (members_of_equation (map (literal_at c.args.bank.now) c.args.targets.now)) c.args.equations.now c.loop-number.number c.index-equations-number.result [] _ _
    c.loop-number.invariant c.loop-number-test.true c.index-equations-number.is c.in_ok-put_equation.ensures.found
