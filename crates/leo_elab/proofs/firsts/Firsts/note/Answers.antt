use Rattle.std.proofs.Common.{◌∙◌, ◌++◌, ◌∷◌, [], sym, ap}
use Rattle.std.specs.Option.{is_some}
use Rattle.leo_elab.specs.Problem.{named}
use Rattle.leo_elab.specs.Typings.{Typing}
use Rattle.leo_elab.proofs.Declarations.{copied-some, note-new, note-old}
use Rattle.leo_elab.proofs.firsts.Firsts.note.Goals as goal

pub returns-in_ok-add : goal.returns-in_ok-add
returns-in_ok-add c = λ later.
    let s = ap is_some (sym c.type_of.ensures) ∙ (copied-some c.type_of.result ∙ c.if-is_none.ensures) in
    note-new c.args.self.now c.add.new.self c.args.typing.now.atom c.args.typing.now.ty later
    (ap (λ (w : Typing). is_some (named w.atom c.args.self.now)) (sym c.typing.view_is) ∙ s)
    (c.in_ok-add.ensures ∙ ap (λ (w : Typing). c.args.self.now ++ (w.atom, w.ty) ∷ []) c.typing.view_is)

pub returns-else-is_none : goal.returns-else-is_none
returns-else-is_none c = λ later.
    let s = ap is_some (sym c.type_of.ensures) ∙ (copied-some c.type_of.result ∙ c.if-is_none.ensures) in
    note-old c.args.self.now c.args.typing.now.atom c.args.typing.now.ty later
    (ap (λ (w : Typing). is_some (named w.atom c.args.self.now)) (sym c.typing.view_is) ∙ s)
