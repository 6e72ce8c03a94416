use Rattle.leo_elab.proofs.MeaningLaw.{one-meaning, one-application, one-binding}
use Rattle.leo_elab.proofs.ConflictLaw.{sound, sound-formula, sound-application, sound-binding}
use Rattle.leo_elab.proofs.OffenceLaw.{first, first-as-formula, first-in-arguments, first-in-binding}
use Rattle.leo_elab.proofs.laws.formula_laws.Goals as goal

pub returns-clause-one_meaning : goal.returns-clause-one_meaning
returns-clause-one_meaning c = λ d s tree t u a b m n. one-meaning m u b n

pub returns-clause-one_application : goal.returns-clause-one_application
returns-clause-one_application c = λ d s f e arguments t u a b m n. one-application m u b n

pub returns-clause-one_binding : goal.returns-clause-one_binding
returns-clause-one_binding c = λ d binder s vs tree t u a b m n. one-binding m u b n

pub returns-clause-not_both : goal.returns-clause-not_both
returns-clause-not_both c = λ d s tree t a e m o. sound m e o

pub returns-clause-not_both_as_formula : goal.returns-clause-not_both_as_formula
returns-clause-not_both_as_formula c = λ d s tree t e m o. sound-formula m (sound m) o

pub returns-clause-not_both_in_arguments : goal.returns-clause-not_both_in_arguments
returns-clause-not_both_in_arguments c = λ d s f a arguments t b e m o. sound-application m e o

pub returns-clause-not_both_in_binding : goal.returns-clause-not_both_in_binding
returns-clause-not_both_in_binding c = λ d binder s vs tree t a e m o. sound-binding m e o

pub returns-clause-one_offence : goal.returns-clause-one_offence
returns-clause-one_offence c = λ d s tree e f m o. first m f o

pub returns-clause-one_offence_as_formula : goal.returns-clause-one_offence_as_formula
returns-clause-one_offence_as_formula c = λ d s tree e f m o. first-as-formula m f o

pub returns-clause-one_offence_in_arguments : goal.returns-clause-one_offence_in_arguments
returns-clause-one_offence_in_arguments c = λ d s a arguments e f m o. first-in-arguments m f o

pub returns-clause-one_offence_in_binding : goal.returns-clause-one_offence_in_binding
returns-clause-one_offence_in_binding c = λ d binder s vs tree e f m o. first-in-binding m f o
