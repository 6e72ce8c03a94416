use Rattle.std.proofs.Common.{◌≡◌, ap, ◌∙◌}
use Rattle.leo_lists.specs.declared.rings.Place.TheVariants.{Slot}
use Rattle.leo_lists.specs.declared.rings.Link.{Link}
use Rattle.leo_lists.specs.Rings.{link_at, joined}
use Rattle.leo_lists.specs.Views.{table_of}
use Rattle.leo_lists.proofs.Calls
use Rattle.leo_lists.proofs.slots.Slots.unlink.Goals as goal

pub link-link-requires : goal.link-link-requires
link-link-requires c = (Calls.unlink-requires (table_of c.self.inside.rings) c.self.invariant c.args.self.now c.self.view_is c.args.slot c.requires).0

pub join-requires : goal.join-requires
join-requires c =
    let p = Calls.unlink-requires (table_of c.self.inside.rings) c.self.invariant c.args.self.now c.self.view_is c.args.slot c.requires in
    (rw c.link-link.ensures p.1, rw c.link-link.ensures p.2)

pub invariant_of-self : goal.invariant_of-self
invariant_of-self c =
    let is : table_of c.join.new.self ≡ joined (table_of c.self.inside.rings) (link_at (table_of c.self.inside.rings) (Slot c.args.slot)).before (link_at (table_of c.self.inside.rings) (Slot c.args.slot)).after =
    c.join.ensures ∙ ap (λ (k : Link). joined (table_of c.self.inside.rings) k.before k.after) c.link-link.ensures in
    (Calls.unlink-seen (table_of c.self.inside.rings) c.self.invariant c.args.self.now c.self.view_is c.args.slot c.requires (table_of c.join.new.self) is).0

pub returns : goal.returns
returns c =
    let is : table_of c.join.new.self ≡ joined (table_of c.self.inside.rings) (link_at (table_of c.self.inside.rings) (Slot c.args.slot)).before (link_at (table_of c.self.inside.rings) (Slot c.args.slot)).after =
    c.join.ensures ∙ ap (λ (k : Link). joined (table_of c.self.inside.rings) k.before k.after) c.link-link.ensures in
    (Calls.unlink-seen (table_of c.self.inside.rings) c.self.invariant c.args.self.now c.self.view_is c.args.slot c.requires (table_of c.join.new.self) is).1
