use Rattle.leo_q0.proofs.LawProofs as law
use Rattle.leo_q0.proofs.laws.derivation_laws.Goals as goal

pub returns : goal.returns
returns c = record { formulas = law.formulas }
