use Rattle.std.proofs.Common.{add-one}
use Rattle.fo_terms.proofs.Stepping.{move-class, move-open}
use Rattle.fo_terms.proofs.solve.open.Goals as goal

pub returns-then-left_root-right_root : goal.returns-then-left_root-right_root
returns-then-left_root-right_root c =
    move-class c.args.places.now.nodes.items c.args.bindings.now.made.items c.args.classes.now.parents.items c.args.left c.args.right c.requires.left c.requires.right c.root-left_root.result c.root-right_root.result c.root-left_root.ensures.same c.root-right_root.ensures.same
    c.if-left_root-right_root.true

pub returns : goal.returns
returns c =
    rw (add-one, add-one)
    (move-open c.args.places.now.nodes.items c.args.bindings.now.made.items c.args.classes.now.parents.items c.args.left c.args.right c.requires.left c.requires.right c.root-left_root.result c.root-right_root.result c.root-left_root.ensures.same c.root-right_root.ensures.same
    c.args.symbol c.args.arguments c.requires.left_is c.requires.right_is c.root-left_root.ensures.root c.root-right_root.ensures.root c.if-left_root-right_root.false)
