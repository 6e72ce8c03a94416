use Rattle.leo_simulation.proofs.Definitions.{refutations_derive_falsity}
use Rattle.leo_simulation.proofs.LineFormulas.{lines_are_derivable}
use Rattle.leo_simulation.proofs.laws.soundness_laws.Goals as goal

pub returns-clause-lines : goal.returns-clause-lines
returns-clause-lines c = lines_are_derivable

pub returns-clause-falsity : goal.returns-clause-falsity
returns-clause-falsity c = refutations_derive_falsity
