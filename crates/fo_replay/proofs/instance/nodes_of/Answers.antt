use Rattle.std.proofs.Common.{◌++◌, ◌∙◌, ap, subst}
use Rattle.fo_terms.specs.declared.term.FoNode.{FoNode}
use Rattle.fo_replay.specs.Instances.{IsNodeOf, AreNodesOf}
use Rattle.fo_replay.proofs.Instancing.{no_nodes, nodes_next}
use Rattle.fo_replay.proofs.instance.nodes_of.Goals as goal

pub returns-in_default-2 : goal.returns-in_default-2
returns-in_default-2 c = λ ns h.
    let i = c.loop-word.invariant in
    let never : (n : FoNode) → IsNodeOf c.args.syms.now c.in-Some.word.now n → ⊥ = rw c.in_default-2.is at c.in_ok-node.ensures in
    no_nodes c.args.syms.now i.0 c.in-Some.word.now c.in-Some.tail.now ns (subst (λ u. AreNodesOf c.args.syms.now u ns) (i.1 ∙ ap (λ u. i.0 ++ u) c.in-Some.ensures.cases.0) h) never

pub loop-word-preserved : goal.loop-word-preserved
loop-word-preserved c =
    let i = c.loop-word.invariant in
    let is : IsNodeOf c.args.syms.now c.in-Some.word.now c.in-Some-2.node = rw c.in-Some-2.is at c.in_ok-node.ensures in
    nodes_next c.args.syms.now c.args.words.now i.0 c.loop-word.rest.now c.in-Some.word.now c.in-Some.tail.now c.loop-word.list.items c.push.new.self.items c.in-Some-2.node i.1 c.in-Some.ensures.cases.0 i.2 is c.in_ok-push.ensures.items
