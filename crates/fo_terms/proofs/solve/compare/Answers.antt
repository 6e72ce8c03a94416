use Rattle.std.proofs.Common.{inl, inr}
use Rattle.fo_terms.specs.declared.term.FoNode.TheVariants.{Sym}
use Rattle.fo_terms.proofs.Stepping.{move-left, move-right, move-clash}
use Rattle.fo_terms.proofs.solve.compare.Goals as goal
use Rattle.fo_terms.proofs.solve.compare.Goals.{then-symbol-other-via-then-symbol-other, then-symbol-other-via-else-symbol-other+then-arguments-others}

pub returns-in-Sym-node : goal.returns-in-Sym-node
returns-in-Sym-node c =
    move-left c.args.places.now.nodes.items c.args.bindings.now.made.items c.args.classes.now.parents.items c.args.left c.args.right c.requires.left c.requires.right
    c.in-Var.variable (Sym c.in-Sym-node.field-0 c.in-Sym-node.field-1) c.requires.left_resolved c.requires.right_resolved c.in-Var.ensures c.in-Sym-node.ensures (λ e. cc)

pub returns-in-Var-node-2 : goal.returns-in-Var-node-2
returns-in-Var-node-2 c =
    move-right c.args.places.now.nodes.items c.args.bindings.now.made.items c.args.classes.now.parents.items c.args.left c.args.right c.requires.left c.requires.right
    c.in-Var-node-2.variable c.in-Sym.symbol c.in-Sym.arguments c.requires.left_resolved c.requires.right_resolved c.in-Sym.ensures c.in-Var-node-2.ensures

pub returns-then-symbol-other : goal.returns-then-symbol-other
returns-then-symbol-other c =
    move-clash c.args.places.now.nodes.items c.args.bindings.now.made.items c.args.classes.now.parents.items c.args.left c.args.right c.requires.left c.requires.right
    c.in-Sym.symbol c.in-Sym.arguments c.in-Sym-node-2.other c.in-Sym-node-2.others c.requires.places.full c.in-Sym.ensures c.in-Sym-node-2.ensures
    (elim c.then-symbol-other.branch [ then-symbol-other-via-then-symbol-other w ↦ inl w.if-symbol-other.true | then-symbol-other-via-else-symbol-other+then-arguments-others w ↦ inr w.if-arguments-others.true ])
