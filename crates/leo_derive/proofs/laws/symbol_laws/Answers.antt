use Rattle.leo_derive.proofs.MappedLaw.{mapped_law, empty_law}
use Rattle.leo_derive.proofs.laws.symbol_laws.Goals as goal

pub returns-clause-accepted : goal.returns-clause-accepted
returns-clause-accepted c = mapped_law

pub returns-clause-empty : goal.returns-clause-empty
returns-clause-empty c = empty_law
