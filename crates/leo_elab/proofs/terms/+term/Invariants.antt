use Rattle.leo_elab.proofs.terms.+term.Given as goal

abbrev pub decreases-term : goal.decreases-term
decreases-term l = l.room

abbrev pub decreases-formula : goal.decreases-formula
decreases-formula l = l.room

abbrev pub decreases-application : goal.decreases-application
decreases-application l = l.room

abbrev pub decreases-arguments : goal.decreases-arguments
decreases-arguments l = l.room

abbrev pub decreases-binding : goal.decreases-binding
decreases-binding l = l.room
