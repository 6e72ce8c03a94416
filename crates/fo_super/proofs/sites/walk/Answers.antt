use Rattle.fo_super.proofs.Walking.{walk-starts, walk-over}
use Rattle.fo_super.proofs.sites.walk.Goals as goal

pub loop-node-init : goal.loop-node-init
loop-node-init c = walk-starts c.args.from c.args.into c.args.head c.args.out.now c.new-path.result.items c.new-frames.result.items c.push.new.self.items c.args.arguments c.args.nodes.now c.new-path.ensures.items c.new-frames.ensures.items c.in_ok-push.ensures.items

pub returns : goal.returns
returns c = walk-over c.args.from c.args.into c.args.head c.loop-node.out _ c.loop-node.path.items c.loop-node.frames.items c.loop-node.rest.now c.in_default.ensures.cases c.loop-node.invariant
