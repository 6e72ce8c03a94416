use Rattle.std.proofs.Common.{◌≡◌, ◌+◌, rules}
use Rattle.leo_terms.proofs.CallerLemmas.{extends-itself, extends-trans, new_bank}
use Rattle.leo_kernel.proofs.Growing.{types-grow}
use Rattle.leo_ext.proofs.BoundMaking.{two-made, whole-later}
use Rattle.leo_ext.proofs.binding.two_functions.Goals as goal

pub returns-in_default-clause-grows : goal.returns-in_default-clause-grows
returns-in_default-clause-grows c = extends-itself c.is_sound.ensures.sound

pub fresh_function-requires-clause-types : goal.fresh_function-requires-clause-types
fresh_function-requires-clause-types c = types-grow c.function_type.ensures.grows c.args.types.now c.requires.types

pub fresh_function-requires-clause-whole : goal.fresh_function-requires-clause-whole
fresh_function-requires-clause-whole c = whole-later c.function_type.ensures.grows (extends-itself (new_bank c.function_type.ensures.grows)) c.args.types.now c.requires.types c.args.to c.in_ok-ty.ty c.requires.to c.in_ok-ty.ensures.made

pub returns-in_err-first-clause-grows : goal.returns-in_err-first-clause-grows
returns-in_err-first-clause-grows c = extends-trans c.function_type.ensures.grows c.fresh_function.ensures.grows

pub fresh_function-requires-2-clause-types : goal.fresh_function-requires-2-clause-types
fresh_function-requires-2-clause-types c = types-grow (extends-trans c.function_type.ensures.grows c.fresh_function.ensures.grows) c.args.types.now c.requires.types

pub fresh_function-requires-2-clause-whole : goal.fresh_function-requires-2-clause-whole
fresh_function-requires-2-clause-whole c = whole-later c.function_type.ensures.grows c.fresh_function.ensures.grows c.args.types.now c.requires.types c.args.to c.in_ok-ty.ty c.requires.to c.in_ok-ty.ensures.made

pub returns-in_err-second-clause-grows : goal.returns-in_err-second-clause-grows
returns-in_err-second-clause-grows c = extends-trans (extends-trans c.function_type.ensures.grows c.fresh_function.ensures.grows) c.fresh_function-2.ensures.grows

pub returns-clause-made : goal.returns-clause-made
returns-clause-made c =
    let e : c.in-Some.after ≡ c.args.next + 1 = search (rules, c.in-Some.ensures) in
    two-made c.function_type.ensures.grows c.fresh_function.ensures.grows c.fresh_function-2.ensures.grows c.args.types.now c.requires.types c.args.next c.in-Some.after c.args.to c.in_ok-ty.ty c.in_ok-first.first c.in_ok-second.second c.requires.to e c.in_ok-ty.ensures.made c.in_ok-first.ensures.made c.in_ok-second.ensures.made

pub returns-clause-grows : goal.returns-clause-grows
returns-clause-grows c = extends-trans (extends-trans c.function_type.ensures.grows c.fresh_function.ensures.grows) c.fresh_function-2.ensures.grows
