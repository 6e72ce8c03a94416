use Rattle.std.proofs.Common.{◌≤◌, ℕ, arith, nat_le, IsTrue}
use Rattle.std.proofs.lemmas.Bool.Decides.{nat_tests}
use Rattle.leo_tstp.proofs.Ahead.{none-left, no-token-left}
use Rattle.leo_tstp.proofs.reading.source.Reader.is_done.Goals as goal

from-test : (m n : ℕ) → IsTrue (nat_le m n) → m ≤ n
from-test m n h = grind (arith, nat_tests)

to-test : (m n : ℕ) → m ≤ n → IsTrue (nat_le m n)
to-test m n h = grind (arith, nat_tests)

pub returns : goal.returns
returns c = (λ h. none-left _ _ _ (from-test _ _ h), λ h. to-test _ _ (no-token-left _ _ _ h))
