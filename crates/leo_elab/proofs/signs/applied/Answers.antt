use Rattle.std.proofs.Common.{◌≡◌, ◌∙◌, sym}
use Rattle.leo_terms.specs.Contents.{IsArrow, type_number}
use Rattle.leo_terms.proofs.CallerLemmas.{extends-itself, type_number-within}
use Rattle.leo_elab.proofs.Standing.{applied-other, applied-base, applied-made, same-true, same-false, not-false, not-true}
use Rattle.leo_elab.proofs.Standing.{applicable-here}
use Rattle.leo_elab.proofs.Forms.{applied-fits}
use Rattle.leo_elab.proofs.signs.applied.Goals as goal

pub view_ty-requires : goal.view_ty-requires
view_ty-requires c = rw c.type_of.ensures.number (type_number-within c.is_sound.ensures.sound c.args.f c.requires.function)

pub returns-then-ne-clause-misfit : goal.returns-then-ne-clause-misfit
returns-then-ne-clause-misfit c = λ _. let a : IsArrow c.args.bank.now (type_number c.args.bank.now c.args.f) c.in-Arrow.from c.in-Arrow.field-1 = record { arrow_node = rw (← c.type_of.ensures.number) c.in-Arrow.ensures.view } in applied-other c.args.f c.args.x c.is_sound.ensures.sound a c.requires.argument (λ e. same-false _ _ (not-true _ c.if-ne.ensures) (sym e ∙ sym c.type_of-in-Arrow.ensures.number))

pub returns-then-ne-clause-grows : goal.returns-then-ne-clause-grows
returns-then-ne-clause-grows c = extends-itself c.is_sound.ensures.sound

pub make_app-requires-clause-typed : goal.make_app-requires-clause-typed
make_app-requires-clause-typed c = let a : IsArrow c.args.bank.now (type_number c.args.bank.now c.args.f) c.in-Arrow.from c.in-Arrow.field-1 = record { arrow_node = rw (← c.type_of.ensures.number) c.in-Arrow.ensures.view } in let e : type_number c.args.bank.now c.args.x ≡ c.in-Arrow.from = sym c.type_of-in-Arrow.ensures.number ∙ sym (same-true _ _ (not-false _ c.if-ne.ensures)) in applicable-here c.args.f c.args.x c.is_sound.ensures.sound c.requires.function c.requires.argument a e

pub returns-in_ok-r-in-Arrow-clause-made : goal.returns-in_ok-r-in-Arrow-clause-made
returns-in_ok-r-in-Arrow-clause-made c = let a : IsArrow c.args.bank.now (type_number c.args.bank.now c.args.f) c.in-Arrow.from c.in-Arrow.field-1 = record { arrow_node = rw (← c.type_of.ensures.number) c.in-Arrow.ensures.view } in let e : type_number c.args.bank.now c.args.x ≡ c.in-Arrow.from = sym c.type_of-in-Arrow.ensures.number ∙ sym (same-true _ _ (not-false _ c.if-ne.ensures)) in applied-made c.make_app.ensures.grows a e c.in_ok-r-in-Arrow.ensures.made

pub returns-in_ok-r-in-Arrow-clause-fits : goal.returns-in_ok-r-in-Arrow-clause-fits
returns-in_ok-r-in-Arrow-clause-fits c = let a : IsArrow c.args.bank.now (type_number c.args.bank.now c.args.f) c.in-Arrow.from c.in-Arrow.field-1 = record { arrow_node = rw (← c.type_of.ensures.number) c.in-Arrow.ensures.view } in let e : type_number c.args.bank.now c.args.x ≡ c.in-Arrow.from = sym c.type_of-in-Arrow.ensures.number ∙ sym (same-true _ _ (not-false _ c.if-ne.ensures)) in applied-fits c.make_app.ensures.grows c.requires.function c.requires.argument a e c.in_ok-r-in-Arrow.ensures.made

pub returns-in-Base-clause-misfit : goal.returns-in-Base-clause-misfit
returns-in-Base-clause-misfit c = λ _. applied-base c.args.f c.in-Base.field-0 c.is_sound.ensures.sound _ (rw (← c.type_of.ensures.number) c.in-Base.ensures.view)

pub returns-in-Base-clause-grows : goal.returns-in-Base-clause-grows
returns-in-Base-clause-grows c = extends-itself c.is_sound.ensures.sound
