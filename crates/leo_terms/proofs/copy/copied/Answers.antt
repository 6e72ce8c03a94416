use Rattle.std.proofs.Common.{◌≡◌, ◌∙◌, take, rules}
use Rattle.leo_terms.proofs.ListLemmas.{insert_key-next}
use Rattle.leo_terms.proofs.copy.copied.Goals as goal

pub loop-place-preserved : goal.loop-place-preserved
loop-place-preserved g c same =
    let kept : c.loop-place.copy.keys ≡ take c.loop-place.place c.args.nodes.now.keys = c.loop-place.invariant same in
    c.in_ok-insert_full.ensures.keys ∙ rw kept (insert_key-next g.T.PartialEq.eq (λ x. search rules) same c.args.nodes.now.keys c.len-place-end.ensures.unique c.loop-place.place c.node_at-node.result c.node_at-node.ensures)
