use Rattle.std.proofs.Common.{◌∙◌}
use Rattle.fo_terms.specs.Bindings.{solution}
use Rattle.fo_terms.proofs.Walking.{pending-push}
use Rattle.fo_terms.proofs.walk.next_node.Goals as goal

pub returns-in_ok-node-in-Some-clause-node : goal.returns-in_ok-node-in-Some-clause-node
returns-in_ok-node-in-Some-clause-node c =
    rw c.in-Some.ensures.items (pending-push c.args.places.now.nodes.items (solution c.args.places.now.nodes.items c.args.bindings.now.made.items) c.pop.new.self.items c.in-Some.span ∙ c.in_ok-node-in-Some.ensures.node)
