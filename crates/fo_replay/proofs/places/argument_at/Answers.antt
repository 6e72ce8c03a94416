use Rattle.std.proofs.Common.{◌∙◌, ap, ◌∷◌}
use Rattle.fo_replay.proofs.Paths.{argument_there, argument_not_there}
use Rattle.fo_replay.proofs.places.argument_at.Goals as goal

pub returns-then-number-count : goal.returns-then-number-count
returns-then-number-count c = argument_there c.args.nodes.now c.in-Sym.field-0 c.in-Sym.count c.in_ok-node.tail.now c.args.number c.behind.result.now (c.in_ok-node.ensures.cases.0 ∙ ap (λ u. u ∷ c.in_ok-node.tail.now) c.in-Sym.is) c.if-number-count.true c.behind.ensures

pub returns-else-number-count : goal.returns-else-number-count
returns-else-number-count c = λ t back ns e. argument_not_there c.args.nodes.now c.in-Sym.field-0 c.in-Sym.count c.in_ok-node.tail.now c.args.number (c.in_ok-node.ensures.cases.0 ∙ ap (λ u. u ∷ c.in_ok-node.tail.now) c.in-Sym.is) c.if-number-count.false t back ns e
