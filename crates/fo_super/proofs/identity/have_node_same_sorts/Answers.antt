use Rattle.fo_super.specs.Matching.{HasNodeSameSorts}
use Rattle.fo_super.proofs.Answering.{no, yes, refuted}
use Rattle.fo_super.proofs.Sorting.{all-at, each-next, each-all}
use Rattle.fo_super.proofs.identity.have_node_same_sorts.Goals as goal

pub returns-then-not-has_node_same_sorts : goal.returns-then-not-has_node_same_sorts
returns-then-not-has_node_same_sorts c =
    no (λ h. refuted c.has_node_same_sorts.result c.has_node_same_sorts.ensures c.if-not-has_node_same_sorts.true
    (all-at (HasNodeSameSorts c.args.vars.now c.args.others.now) c.args.nodes.now h c.loop-place.place c.node_at.result c.node_at.ensures))

pub loop-place-preserved : goal.loop-place-preserved
loop-place-preserved c =
    each-next (HasNodeSameSorts c.args.vars.now c.args.others.now) c.args.nodes.now c.loop-place.place c.node_at.result c.loop-place.invariant
    c.node_at.ensures
    (c.has_node_same_sorts.ensures.0 c.if-not-has_node_same_sorts.false)

pub returns : goal.returns
returns c = yes (each-all (HasNodeSameSorts c.args.vars.now c.args.others.now) c.args.nodes.now c.loop-place.place c.loop-place.invariant c.loop-place-test.false)
