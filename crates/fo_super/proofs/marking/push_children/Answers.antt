use Rattle.std.proofs.Common.{◌≡◌, ◌∙◌, ◌+◌, ◌-◌, ◌<◌, ◌++◌, ◌∷◌, List, [], ℕ, ap, suc, arith}
use Rattle.fo_super.proofs.Masks.{child-pushed}
use Rattle.fo_super.proofs.marking.push_children.Goals as goal

pub loop-left-preserved : goal.loop-left-preserved
loop-left-preserved c =
    let positive : 0 < c.loop-left.left = c.loop-left-test.true in
    child-pushed c.args.place c.loop-left.left (c.loop-left.left - 1) c.loop-left.places.items c.push.new.self.items _ (omega arith) (c.in_ok-push.ensures.items ∙ ap (λ (x : ℕ). c.loop-left.places.items ++ x ∷ []) c.child.ensures) c.loop-left.invariant
