use Rattle.leo_terms.proofs.CallerLemmas.{type_number-within}
use Rattle.leo_ext.proofs.FunctionMembers.{are-functions, no-functions}
use Rattle.leo_ext.proofs.func_ext.arrow_of.Goals as goal

pub view_ty-requires : goal.view_ty-requires
view_ty-requires c = rw c.type_of-ty.ensures.number (type_number-within c.type_of-ty.ensures.sound c.args.lit.now.left c.requires.lit.0)

pub returns-in-Arrow : goal.returns-in-Arrow
returns-in-Arrow c = are-functions c.args.bank.now c.type_of-ty.ensures.sound c.args.lit.now c.type_of-ty.result c.in-Arrow.from c.in-Arrow.to c.requires.lit.0 c.requires.lit.1 c.type_of-ty.ensures.number c.in-Arrow.ensures.view c.requires.same_type

pub returns-in-Base : goal.returns-in-Base
returns-in-Base c = no-functions c.args.bank.now c.type_of-ty.ensures.sound c.args.lit.now c.type_of-ty.result c.in-Base.field-0 c.requires.lit.0 c.type_of-ty.ensures.number c.in-Base.ensures.view
