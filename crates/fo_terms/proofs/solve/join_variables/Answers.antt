use Rattle.std.proofs.Common.{ℕ, ◌≡◌, ◌≢◌, Some}
use Rattle.std.specs.Prelude.{slice_get}
use Rattle.fo_terms.specs.declared.term.FoNode.TheVariants.{Var}
use Rattle.fo_terms.proofs.Stepping.{move-same, move-left, move-turned}
use Rattle.fo_terms.proofs.solve.join_variables.Goals as goal

different : (v w : ℕ) → v ≢ w → Var w ≡ Var v → ⊥
different v w d e = d (let same : v ≡ w = cc in same)

pub returns-then-left-right : goal.returns-then-left-right
returns-then-left-right c =
    let same : c.args.left.1 ≡ c.args.right.1 = c.if-left-right.true in
    let left : slice_get c.args.places.now.nodes.items c.args.left.0 ≡ Some (Var c.args.right.1) = rw same at c.requires.left_is in
    move-same c.args.places.now.nodes.items c.args.bindings.now.made.items c.args.classes.now.parents.items c.args.left.0 c.args.right.0 c.requires.left c.requires.right c.args.right.1 left c.requires.right_is

pub returns-then-left-right-2 : goal.returns-then-left-right-2
returns-then-left-right-2 c =
    move-turned c.args.places.now.nodes.items c.args.bindings.now.made.items c.args.classes.now.parents.items c.args.left.0 c.args.right.0 c.requires.left c.requires.right
    c.args.left.1 c.args.right.1 c.requires.left_resolved c.requires.right_resolved c.requires.left_is c.requires.right_is c.if-left-right.false

pub returns : goal.returns
returns c =
    move-left c.args.places.now.nodes.items c.args.bindings.now.made.items c.args.classes.now.parents.items c.args.left.0 c.args.right.0 c.requires.left c.requires.right
    c.args.left.1 (Var c.args.right.1) c.requires.left_resolved c.requires.right_resolved c.requires.left_is c.requires.right_is (different c.args.left.1 c.args.right.1 c.if-left-right.false)
