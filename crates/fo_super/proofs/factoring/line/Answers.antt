use Rattle.fo_super.proofs.factoring.line.Goals as goal

pub returns-in_default : goal.returns-in_default
returns-in_default c = λ sorts d h. (rw c.in_default.is at c.in_ok-made.ensures) d h.gives
