use Rattle.leo_clausify.proofs.Banks.{literals-one}
use Rattle.leo_clausify.proofs.literals.single.Goals as goal

pub returns-clause-made : goal.returns-clause-made
returns-clause-made c = rw (c.in_ok-push.ensures.ok, c.new-new.ensures) (literals-one c.valued.new.bank c.in_ok-lit.lit _ c.in_ok-lit.ensures.made)
