use Rattle.leo_kernel.proofs.GivenTerms.{given-decides}
use Rattle.leo_kernel.proofs.given.may_be_given.Goals as goal

pub returns : goal.returns
returns c = given-decides c.args.bank.now _ _ _ _ c.in_ok-fit.fit c.in_ok-declared.declared c.in_ok-fit.ensures c.if-not-fit.false c.in_ok-declared.ensures
