use Rattle.leo_simulation.proofs.Banks.{bank_lines_are_proper}
use Rattle.leo_simulation.proofs.laws.bank_laws.Goals as goal

pub returns : goal.returns
returns c = bank_lines_are_proper
