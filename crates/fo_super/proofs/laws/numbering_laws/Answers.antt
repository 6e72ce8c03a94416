use Rattle.fo_super.proofs.Naming.{numbered, renamed-general}
use Rattle.fo_super.proofs.laws.numbering_laws.Goals as goal

pub returns-clause-occurrence : goal.returns-clause-occurrence
returns-clause-occurrence c = numbered

pub returns-clause-general : goal.returns-clause-general
returns-clause-general c = renamed-general
