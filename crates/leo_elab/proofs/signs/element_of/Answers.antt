use Rattle.std.proofs.Common.{◌∙◌, sym}
use Rattle.leo_terms.specs.Contents.{IsArrow, type_number}
use Rattle.leo_terms.proofs.CallerLemmas.{type_number-within}
use Rattle.leo_elab.proofs.Standing.{element-other, element-base, same-true, same-false}
use Rattle.leo_elab.proofs.signs.element_of.Goals as goal

pub view_ty-requires : goal.view_ty-requires
view_ty-requires c = rw c.type_of.ensures.number (type_number-within c.type_of.ensures.sound c.args.set c.requires)

pub returns-then-eq-clause-found : goal.returns-then-eq-clause-found
returns-then-eq-clause-found c = record { arrow_node = rw (← c.type_of.ensures.number, ← c.truth.ensures, ← same-true _ _ (sym c.if-eq.ensures)) c.in-Arrow.ensures.view }

pub returns-else-eq-clause-misfit : goal.returns-else-eq-clause-misfit
returns-else-eq-clause-misfit c = let a : IsArrow c.args.bank.now (type_number c.args.bank.now c.args.set) c.in-Arrow.from c.in-Arrow.to = record { arrow_node = rw (← c.type_of.ensures.number) c.in-Arrow.ensures.view } in element-other c.type_of.ensures.sound a (λ e. same-false _ _ (sym c.if-eq.ensures) (e ∙ sym c.truth.ensures))

pub returns-in-Base-clause-misfit : goal.returns-in-Base-clause-misfit
returns-in-Base-clause-misfit c = element-base (type_number c.args.bank.now c.args.set) c.in-Base.field-0 c.type_of.ensures.sound (rw (← c.type_of.ensures.number) c.in-Base.ensures.view)
