use Rattle.leo_elab.proofs.TypeLaws.{one-type, one-offence, no-offence}
use Rattle.leo_elab.proofs.laws.type_laws.Goals as goal

pub returns-clause-one_meaning : goal.returns-clause-one_meaning
returns-clause-one_meaning c = λ d ty a b m n. one-type m n

pub returns-clause-one_offence : goal.returns-clause-one_offence
returns-clause-one_offence c = λ d ty e f m n. one-offence m n

pub returns-clause-not_both : goal.returns-clause-not_both
returns-clause-not_both c = λ d ty a e m n. no-offence m n
