use Rattle.std.proofs.Common.{◌∙◌, sym, ap}
use Rattle.std.proofs.lemmas.Result.{err_from_is_err_and}
use Rattle.leo_elab.specs.Typings.{Typing}
use Rattle.leo_elab.proofs.Declarations.{offends-twice, offends-type, right-type, right-constant}
use Rattle.leo_elab.proofs.checking.check_typing.Goals as goal

pub returns-then-not-branch-clause-refusal : goal.returns-then-not-branch-clause-refusal
returns-then-not-branch-clause-refusal c = λ n.
    offends-twice c.args.firsts.now c.args.typing.now c.args.first.now c.requires.first c.typing.inside.atom_byte c.typing.inside.ty.now
    (ap (λ (w : Typing). w.byte) c.typing.view_is) (ap (λ (w : Typing). w.ty) c.typing.view_is) (c.in_ok-are_alike.ensures.no c.if-not-branch.true)

pub returns-then-declares_type-clause-right : goal.returns-then-declares_type-clause-right
returns-then-declares_type-clause-right c =
    right-type c.args.firsts.now c.args.typing.now c.args.first.now c.requires.first c.typing.inside.ty.now
    (ap (λ (w : Typing). w.ty) c.typing.view_is) (c.in_ok-are_alike.ensures.yes c.if-not-branch.false) (sym c.declares_type.ensures.value ∙ c.if-declares_type.true)

pub returns-in_err-check_type-clause-refusal : goal.returns-in_err-check_type-clause-refusal
returns-in_err-check_type-clause-refusal c =
    let p = err_from_is_err_and c.from_residual-in_err-check_type.result c.from_residual-in_err-check_type.ensures.1 in
    rw (p.1, p.2) (λ n.
    offends-type c.args.firsts.now c.args.typing.now c.args.first.now c.requires.first c.typing.inside.ty.now
    (ap (λ (w : Typing). w.ty) c.typing.view_is) (c.in_ok-are_alike.ensures.yes c.if-not-branch.false) (sym c.declares_type.ensures.value ∙ c.if-declares_type.false)
    (c.in_err-check_type.ensures.refusal n))

pub returns-clause-right : goal.returns-clause-right
returns-clause-right c =
    right-constant c.args.firsts.now c.args.typing.now c.args.first.now c.requires.first c.typing.inside.ty.now
    (ap (λ (w : Typing). w.ty) c.typing.view_is) (c.in_ok-are_alike.ensures.yes c.if-not-branch.false) (sym c.declares_type.ensures.value ∙ c.if-declares_type.false)
    c.in_ok-check_type.ensures.fine
