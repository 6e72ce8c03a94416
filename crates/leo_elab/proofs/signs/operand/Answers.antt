use Rattle.std.proofs.Common.{◌∙◌, arith}
use Rattle.leo_q0.specs.Terms.{truth}
use Rattle.leo_elab.proofs.Standing.{index-made}
use Rattle.leo_elab.proofs.Standing.{truth-type}
use Rattle.leo_elab.proofs.signs.operand.Goals as goal

pub make_bound-requires : goal.make_bound-requires
make_bound-requires c = let two = c.is_sound.ensures.sound.base_types in let z = c.truth.ensures in omega arith

pub returns-clause-made : goal.returns-clause-made
returns-clause-made c = λ s n g k. index-made c.make_bound.ensures.grows (let two = c.is_sound.ensures.sound.base_types in let z = c.truth.ensures in omega arith) c.in_ok-t.ensures.made s n truth (truth-type c.truth.result c.is_sound.ensures.sound c.truth.ensures) g k

pub returns-clause-formula : goal.returns-clause-formula
returns-clause-formula c = record { within = c.in_ok-t.ensures.made.within; formula = c.in_ok-t.ensures.made.type_is ∙ c.truth.ensures }
