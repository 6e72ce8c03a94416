use Rattle.leo_tstp.proofs.Placing.{same-place}
use Rattle.leo_tstp.proofs.reading.patterns.+fits.Goals as goal

pub returns-in-Type : goal.returns-in-Type
returns-in-Type t c = λ v l a s h k. same-place v l _ _ a _ _ c.in-Type.is s h k
