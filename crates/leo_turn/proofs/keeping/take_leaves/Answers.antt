use Rattle.leo_turn.proofs.Growing.{grows-trans}
use Rattle.leo_turn.proofs.KeptLeaves.{taken-first, taken-leaf, taken-next}
use Rattle.leo_turn.proofs.keeping.take_leaves.Goals as goal

pub loop-leaf-init : goal.loop-leaf-init
loop-leaf-init c = taken-first c.args.bank.now c.args.limit c.args.search.now c.args.leaves.now c.requires.search

pub take_leaf-requires-clause-leaf : goal.take_leaf-requires-clause-leaf
take_leaf-requires-clause-leaf c = taken-leaf c.args.bank.now c.args.limit c.args.search.now c.loop-leaf.search c.args.start c.args.leaves.now c.loop-leaf.leaf-index c.leaf-item.result c.loop-leaf.invariant c.requires.leaves c.loop-leaf-test.true c.leaf-item.is

pub returns-in_err-take_leaf-clause-longer : goal.returns-in_err-take_leaf-clause-longer
returns-in_err-take_leaf-clause-longer c = grows-trans c.loop-leaf.invariant.grows c.take_leaf.ensures.longer

pub loop-leaf-preserved : goal.loop-leaf-preserved
loop-leaf-preserved c = taken-next c.args.bank.now c.args.limit c.args.search.now c.loop-leaf.search c.args.start c.args.leaves.now c.loop-leaf.leaf-index c.leaf-item.result c.loop-leaf.invariant c.requires.leaves c.loop-leaf-test.true c.leaf-item.is c.take_leaf.new.search c.in_ok-take_leaf.ensures.search c.in_ok-take_leaf.ensures.takes c.in_ok-take_leaf.ensures.same c.take_leaf.ensures.longer
