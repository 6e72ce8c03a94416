use Rattle.std.proofs.Common.{arith}
use Rattle.leo_terms.proofs.CallerLemmas.{extends-itself, type_number-within, arrow-parts}
use Rattle.leo_tstp.proofs.building.terms.quantified.Goals as goal

pub view_ty-requires : goal.view_ty-requires
view_ty-requires c = rw c.type_of-ty.ensures.number (type_number-within c.is_sound.ensures.sound c.args.set c.requires)

pub with_one-requires-clause-op : goal.with_one-requires-clause-op
with_one-requires-clause-op c = let p = arrow-parts c.in-Arrow.ensures.sound (record { arrow_node = c.in-Arrow.ensures.view }) in c.quantifier_over.ensures _ (omega arith)

pub returns-in-Base-clause-grows : goal.returns-in-Base-clause-grows
returns-in-Base-clause-grows c = extends-itself c.is_sound.ensures.sound
