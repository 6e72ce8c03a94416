use Rattle.leo_terms.proofs.CallerLemmas.{extends-itself, type_number-within}
use Rattle.leo_kernel.proofs.ShapeRules.{sides-number, no-function}
use Rattle.leo_kernel.proofs.shape.applies_functions.Goals as goal

pub view_ty-requires : goal.view_ty-requires
view_ty-requires c = rw c.type_of-function.ensures.number (type_number-within c.type_of-function.ensures.sound c.args.lit.left c.requires.left)

pub applies_fresh-requires-clause-same_type : goal.applies_fresh-requires-clause-same_type
applies_fresh-requires-clause-same_type c = sides-number c.args.bank.now c.type_of-function.ensures.sound c.args.lit c.requires.left c.requires.right c.requires.same_type

pub returns-in-Base-clause-value : goal.returns-in-Base-clause-value
returns-in-Base-clause-value c = absurd (no-function c.args.bank.now c.type_of-function.ensures.sound c.args.lit c.requires.left c.requires.right c.type_of-function.result _ c.type_of-function.ensures.number c.in-Base.ensures.view c.requires.functions)

pub returns-in-Base-clause-grows : goal.returns-in-Base-clause-grows
returns-in-Base-clause-grows c = extends-itself c.type_of-function.ensures.sound
