use Rattle.std.proofs.Common.{arith, ◌+◌, ◌<◌, ◌≡◌, length, subst, sym}
use Rattle.fo_text.specs.Searches.{IsBest}
use Rattle.fo_text.specs.Nodes.{spaced_node}
use Rattle.fo_text.proofs.Searching.{ahead, whole-within, best-more, best-within, refuses-best}
use Rattle.fo_text.proofs.nodes.sought_node.Goals as goal

pub split_at-requires : goal.split_at-requires
split_at-requires c =
    let w = rw c.in-Whole.is at c.in_ok-node.ensures in
    whole-within c.args.input.now (spaced_node c.args.after c.in-Whole.node) c.in-Whole.len w.1 w.2

pub returns-in-Whole-clause-ahead : goal.returns-in-Whole-clause-ahead
returns-in-Whole-clause-ahead c =
    let w = rw c.in-Whole.is at c.in_ok-node.ensures in
    ahead c.args.after c.args.input.now c.in-Whole.node c.in-Whole.len c.split_at.result.1.now w.1 w.2 c.split_at.ensures.back

pub loop-at-preserved : goal.loop-at-preserved
loop-at-preserved c =
    let n = c.args.names in
    let part = rw c.in-Part.is at c.in_ok-node.ensures in
    let best = best-more n.vars.now n.syms.now n.usable.now c.args.want c.args.after c.args.input.now c.loop-at.at c.loop-at.best c.in-Part.count c.loop-at.invariant.0 part in
    let new = subst (IsBest n.vars.now n.syms.now n.usable.now c.args.want c.args.after c.args.input.now (λ other. other < c.loop-at.at + 1)) (sym c.larger-best.ensures) best in
    (new, best-within n.vars.now n.syms.now n.usable.now c.args.want c.args.after c.args.input.now (λ other. other < c.loop-at.at + 1) c.larger-best.result new)

pub returns-clause-refused : goal.returns-clause-refused
returns-clause-refused c n k =
    let m = c.args.names in
    let end : c.loop-at.at ≡ length m.vars.now + length m.syms.now = omega arith in
    refuses-best m.vars.now m.syms.now m.usable.now c.args.want c.args.after c.args.input.now c.loop-at.best (subst (λ u. IsBest m.vars.now m.syms.now m.usable.now c.args.want c.args.after c.args.input.now (λ other. other < u) c.loop-at.best) end c.loop-at.invariant.0) n k
