use Rattle.std.proofs.Common.{◌∙◌, Option, List, ap, length, subst}
use Rattle.leo_keep.specs.declared.fronts.Front.{Front}
use Rattle.leo_keep.specs.Groups.{IsFrontGrouped}
use Rattle.leo_keep.proofs.Grouping.{grouped-added, grouped-keep}
use Rattle.leo_keep.proofs.groups.Fronts.add.Goals as goal

pub invariant_of-self-2 : goal.invariant_of-self-2
invariant_of-self-2 c =
    let put = subst (IsFrontGrouped c.put_front.new.groups.items c.args.front) (c.in-Ok.ensures.1 ∙ ap (λ (fs : List (Option Front)). length fs) c.as_slice.ensures.value) c.in_ok-put_front.ensures.put in
    rw c.in_ok-push.ensures.items (grouped-added c.self.inside.fronts.items c.args.front c.put_front.new.groups.items (grouped-keep c.self.inside.fronts.items c.self.inside.groups.items c.put_front.new.groups.items c.self.invariant c.put_front.ensures.stay) put)
