use Rattle.std.proofs.Common.{◌<◌, length, arith}
use Rattle.leo_terms.proofs.CallerLemmas.{extends-trans}
use Rattle.leo_ext.proofs.BoundMaking.{disjunction-made}
use Rattle.leo_ext.proofs.binding.disjunction_bound.Goals as goal

pub returns-in_err-fresh-clause-grows : goal.returns-in_err-fresh-clause-grows
returns-in_err-fresh-clause-grows c = extends-trans c.two_functions.ensures.grows c.make_logic.ensures.grows

pub returns-clause-made : goal.returns-clause-made
returns-clause-made c =
    let l : 0 < length c.args.bank.now.types = (let m = c.is_sound.ensures.sound.base_types in omega arith) in
    disjunction-made c.two_functions.ensures.grows c.make_logic.ensures.grows c.args.types.now c.args.next _ c.in_ok-body.body l c.in_ok-two.two (rw c.truth.ensures at c.in_ok-two.ensures.made) c.in_ok-fresh.fresh c.in_ok-fresh.ensures c.in_ok-body.ensures.made

pub returns-clause-grows : goal.returns-clause-grows
returns-clause-grows c = extends-trans c.two_functions.ensures.grows c.make_logic.ensures.grows
