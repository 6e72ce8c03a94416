use Rattle.fo_terms.specs.Prefix.{prefix}
use Rattle.fo_replay.proofs.Nodes.{cons_same, same_done}
use Rattle.fo_replay.proofs.copies.same_term.Goals as goal

pub loop-ones-preserved : goal.loop-ones-preserved
loop-ones-preserved c =
    let e = c.in-Some.ensures in
    cons_same e.0 (prefix c.args.one.now) (prefix c.args.other.now) c.in-Some.ones.now c.in-Some.others.now c.loop-ones.left.now c.loop-ones.right.now e.1 e.2 c.loop-ones.invariant

pub returns : goal.returns
returns c = same_done c.args.one.now c.args.other.now c.loop-ones.left.now c.loop-ones.right.now c.are_empty.result c.loop-ones.invariant c.in_default.ensures c.are_empty.ensures
