use Rattle.leo_terms.proofs.ListLemmas.{AddsShared-insert}
use Rattle.leo_tstp.proofs.Placing.{node_same, node_itself}
use Rattle.leo_tstp.proofs.reading.trees.Types.place.Goals as goal

pub returns : goal.returns
returns c =
    let e = c.in_ok-place.ensures in
    AddsShared-insert _ node_itself _ _ _ _ _ e.unique e.keys (rw (node_same c.args.node e.stored.0 e.stored.2) e.stored.1)
