use Rattle.conclude_rows.proofs.Overs.{on-negative}
use Rattle.conclude_rows.proofs.typing.is_negative.Goals as goal
