use Rattle.std.proofs.Common.{◌≡◌, ◌∷◌, [], rules}
use Rattle.fo_terms.proofs.Unifying.{AreMade-none, IsState-start, IsWithin-start, IsForest-alone}
use Rattle.fo_terms.proofs.unify.solve.Goals as goal

pub loop-work-init : goal.loop-work-init
loop-work-init c =
    let begun : c.push.new.self.items ≡ record { left = 0; right = c.args.right; count = 1 } ∷ [] = rw c.new-work.ensures.items at c.in_ok-push.ensures.items in (
      c.new-bindings.ensures.indexed,
      rw c.new-bindings.ensures.none (AreMade-none c.args.places.now.nodes.items),
      IsForest-alone c.in_ok-classes.classes.parents.items c.in_ok-classes.ensures.alone,
      search rules,
      rw begun (IsWithin-start c.args.places.now.nodes.items c.args.right c.requires.left c.requires.right),
      rw (c.new-bindings.ensures.none, begun) (IsState-start c.args.places.now.nodes.items c.in_ok-classes.classes.parents.items c.args.right c.in_ok-classes.ensures.alone c.requires.left c.requires.right),
    )
