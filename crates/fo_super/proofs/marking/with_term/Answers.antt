use Rattle.fo_super.proofs.Masks.{walk-over, walk-starts}
use Rattle.std.specs.Prelude.{reverse}
use Rattle.fo_super.proofs.marking.with_term.Goals as goal

pub loop-node-init : goal.loop-node-init
loop-node-init c = walk-starts c.args.mask c.args.place c.args.term.now c.nodes-rest.result.now c.new-places.result.items c.push.new.self.items c.nodes-rest.ensures c.new-places.ensures.items c.in_ok-push.ensures.items

pub returns : goal.returns
returns c = walk-over c.loop-node.found _ (reverse c.loop-node.places.items) c.loop-node.rest.now c.in_default.ensures.cases c.loop-node.invariant
