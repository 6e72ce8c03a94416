use Rattle.std.proofs.Common.{◌∙◌, ap, ◌++◌, ◌∷◌, []}
use Rattle.fo_replay.proofs.SortsOfNodes.{sort_filled}
use Rattle.fo_replay.proofs.sorts.has_sort.Goals as goal

pub returns : goal.returns
returns c = sort_filled c.args.vars.now c.args.syms.now c.args.term.now c.args.sort c.push.new.self.items c.nodes.result.now c.fill.result (c.in_ok-push.ensures.items ∙ ap (λ u. u ++ c.args.sort ∷ []) c.new-wants.ensures.items) c.nodes.ensures c.fill.ensures
