use Rattle.leo_terms.proofs.CallerLemmas.{type_number-within}
use Rattle.leo_kernel.proofs.TypeRules.{is-function, is-no_function}
use Rattle.leo_kernel.proofs.types.is_function.Goals as goal

pub view_ty-requires : goal.view_ty-requires
view_ty-requires c = rw c.type_of-found.ensures.number (type_number-within c.type_of-found.ensures.sound c.args.t c.requires)

pub returns-in-Arrow : goal.returns-in-Arrow
returns-in-Arrow c = is-function c.args.bank.now c.type_of-found.ensures.sound c.args.t c.type_of-found.result _ _ c.requires c.type_of-found.ensures.number c.in-Arrow.ensures.view

pub returns-in-Base : goal.returns-in-Base
returns-in-Base c = is-no_function c.args.bank.now c.type_of-found.ensures.sound c.args.t c.type_of-found.result _ c.requires c.type_of-found.ensures.number c.in-Base.ensures.view
