use Rattle.std.proofs.Common.{◌<◌, length, arith}
use Rattle.leo_terms.proofs.CallerLemmas.{extends-itself, extends-trans, new_bank}
use Rattle.leo_kernel.proofs.Growing.{types-grow}
use Rattle.leo_ext.proofs.BoundMaking.{negation-made, whole-later}
use Rattle.leo_ext.proofs.binding.negation_bound.Goals as goal

pub fresh_function-requires-clause-types : goal.fresh_function-requires-clause-types
fresh_function-requires-clause-types c = types-grow c.function_type.ensures.grows c.args.types.now c.requires

pub fresh_function-requires-clause-whole : goal.fresh_function-requires-clause-whole
fresh_function-requires-clause-whole c =
    let l : c.truth-truth.result < length c.args.bank.now.types = (let m = c.is_sound.ensures.sound.base_types in let z = c.truth-truth.ensures in omega arith) in
    whole-later c.function_type.ensures.grows (extends-itself (new_bank c.function_type.ensures.grows)) c.args.types.now c.requires c.truth-truth.result c.in_ok-whole.whole l c.in_ok-whole.ensures.made

pub returns-in_err-term-clause-grows : goal.returns-in_err-term-clause-grows
returns-in_err-term-clause-grows c = extends-trans c.function_type.ensures.grows c.fresh_function.ensures.grows

pub returns-in_err-body-clause-grows : goal.returns-in_err-body-clause-grows
returns-in_err-body-clause-grows c = extends-trans (extends-trans c.function_type.ensures.grows c.fresh_function.ensures.grows) c.make_logic.ensures.grows

pub returns-in_err-fresh-clause-grows : goal.returns-in_err-fresh-clause-grows
returns-in_err-fresh-clause-grows c = extends-trans (extends-trans c.function_type.ensures.grows c.fresh_function.ensures.grows) c.make_logic.ensures.grows

pub returns-clause-made : goal.returns-clause-made
returns-clause-made c =
    let l : 0 < length c.args.bank.now.types = (let m = c.is_sound.ensures.sound.base_types in omega arith) in
    negation-made c.function_type.ensures.grows c.fresh_function.ensures.grows c.make_logic.ensures.grows c.args.types.now c.requires c.args.next _ c.truth-truth.result c.in_ok-whole.whole c.in_ok-term.term c.in_ok-body.body c.truth-truth.ensures l c.in_ok-whole.ensures.made c.in_ok-term.ensures.made c.in_ok-fresh.fresh c.in_ok-fresh.ensures c.in_ok-body.ensures.made

pub returns-clause-grows : goal.returns-clause-grows
returns-clause-grows c = extends-trans (extends-trans c.function_type.ensures.grows c.fresh_function.ensures.grows) c.make_logic.ensures.grows
