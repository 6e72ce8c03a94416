use Rattle.std.proofs.Common.{◌≡◌, ◌∙◌, sym}
use Rattle.leo_terms.proofs.CallerLemmas.{extends-itself}
use Rattle.leo_elab.proofs.Standing.{number-of-type, types-differ, same-true, same-false}
use Rattle.leo_elab.proofs.signs.equated.Goals as goal

pub marked-requires-clause-same : goal.marked-requires-clause-same
marked-requires-clause-same c = sym c.type_of.ensures.number ∙ same-true _ _ (sym c.if-eq.ensures) ∙ c.type_of-2.ensures.number

pub returns-in_ok-r-clause-made : goal.returns-in_ok-r-clause-made
returns-in_ok-r-clause-made c = λ s m n a b x y. let t : a ≡ b = number-of-type (sym c.type_of.ensures.number ∙ same-true _ _ (sym c.if-eq.ensures) ∙ c.type_of-2.ensures.number) x y in (t, c.in_ok-r.ensures.made s m n a x (rw t y))

pub returns-else-eq-clause-differ : goal.returns-else-eq-clause-differ
returns-else-eq-clause-differ c = λ _. types-differ c.args.t c.args.u c.is_sound.ensures.sound c.requires.left c.requires.right (λ e. same-false _ _ (sym c.if-eq.ensures) (c.type_of.ensures.number ∙ e ∙ sym c.type_of-2.ensures.number))

pub returns-else-eq-clause-grows : goal.returns-else-eq-clause-grows
returns-else-eq-clause-grows c = extends-itself c.is_sound.ensures.sound
