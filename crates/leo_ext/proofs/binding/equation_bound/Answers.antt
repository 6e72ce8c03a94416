use Rattle.leo_terms.proofs.CallerLemmas.{extends-trans}
use Rattle.leo_ext.proofs.BoundMaking.{equation-made}
use Rattle.leo_ext.proofs.binding.equation_bound.Goals as goal

pub returns-in_err-fresh-clause-grows : goal.returns-in_err-fresh-clause-grows
returns-in_err-fresh-clause-grows c = extends-trans c.two_functions.ensures.grows c.make_logic.ensures.grows

pub returns-clause-made : goal.returns-clause-made
returns-clause-made c =
    equation-made c.two_functions.ensures.grows c.make_logic.ensures.grows c.args.types.now c.args.next _ c.args.ty c.in_ok-body.body c.requires.ty c.in_ok-two.two c.in_ok-two.ensures.made c.in_ok-fresh.fresh c.in_ok-fresh.ensures c.in_ok-body.ensures.made

pub returns-clause-grows : goal.returns-clause-grows
returns-clause-grows c = extends-trans c.two_functions.ensures.grows c.make_logic.ensures.grows
