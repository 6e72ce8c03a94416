use Rattle.fo_kbo.proofs.Ordering.{irreflexive, transitive, stable, total_on_ground}
use Rattle.fo_kbo.proofs.laws.order_laws.Goals as goal

pub returns : goal.returns
returns c = record { irreflexive = irreflexive; transitive = transitive; stable = stable; total = total_on_ground }
