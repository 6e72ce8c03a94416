use Rattle.std.proofs.Common.{◌<◌, ◌≤◌, length}
use Rattle.fo_text.specs.Searches.{IsBest}
use Rattle.fo_text.proofs.nodes.sought_node.Given as goal

abbrev pub invariant-loop-at : goal.invariant-loop-at
invariant-loop-at l = IsBest l.names.vars.now l.names.syms.now l.names.usable.now l.want l.after l.input (λ other. other < l.at) l.best × (l.best ≤ length l.input)
