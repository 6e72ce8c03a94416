use Rattle.std.proofs.Common.{false, refl}
use Rattle.leo_terms.proofs.CallerLemmas.{type_number-within}
use Rattle.leo_kernel.proofs.Definitions.{domain-of}
use Rattle.leo_kernel.proofs.TypedLits.{not-both}
use Rattle.leo_kernel.proofs.TypeRules.{is-no_function}
use Rattle.leo_kernel.proofs.ChosenMaking.{difference-of}
use Rattle.leo_kernel.proofs.chosen_claims.difference.Goals as goal

pub view_ty-requires : goal.view_ty-requires
view_ty-requires c = rw c.type_of-ty.ensures.number (type_number-within c.type_of-ty.ensures.sound c.args.lit.left c.requires.left)

pub unreachable-requires : goal.unreachable-requires
unreachable-requires c = not-both false (is-no_function c.args.bank.now c.type_of-ty.ensures.sound c.args.lit.left c.type_of-ty.result c.in-Base.field-0 c.requires.left c.type_of-ty.ensures.number c.in-Base.ensures.view) refl c.requires.functions

pub returns-clause-value : goal.returns-clause-value
returns-clause-value c =
    let f = difference-of c.args.bank.now c.type_of-ty.ensures.sound c.args.lit.left c.args.lit.right c.type_of-ty.result c.in-Arrow.from c.in-Arrow.to c.requires.left c.requires.right c.type_of-ty.ensures.number c.in-Arrow.ensures.view c.requires.same_type in
    rw (domain-of c.args.bank.now c.type_of-ty.ensures.sound c.args.lit.left c.in-Arrow.from c.in-Arrow.to c.requires.left f.0.typed) refl

pub returns-clause-of_bank : goal.returns-clause-of_bank
returns-clause-of_bank c = difference-of c.args.bank.now c.type_of-ty.ensures.sound c.args.lit.left c.args.lit.right c.type_of-ty.result c.in-Arrow.from c.in-Arrow.to c.requires.left c.requires.right c.type_of-ty.ensures.number c.in-Arrow.ensures.view c.requires.same_type
