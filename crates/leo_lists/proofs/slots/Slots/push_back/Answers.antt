use Rattle.std.proofs.Common.{◌≡◌, ap, ◌∙◌}
use Rattle.leo_lists.specs.declared.rings.Place.TheVariants.{Head, Slot}
use Rattle.leo_lists.specs.declared.rings.Link.{Link}
use Rattle.leo_lists.specs.Rings.{Table, link_at, joined}
use Rattle.leo_lists.specs.Views.{table_of}
use Rattle.leo_lists.proofs.Calls
use Rattle.leo_lists.proofs.slots.Slots.push_back.Goals as goal

pub join-requires : goal.join-requires
join-requires c =
    let p = Calls.push-requires (table_of c.self.inside.rings) c.self.invariant c.args.self.now c.self.view_is c.args.list c.args.slot c.requires.list c.requires.slot c.requires.free in
    (rw c.link-tail.ensures p.0, p.1)

pub invariant_of-self : goal.invariant_of-self
invariant_of-self c =
    let is : table_of c.join-2.new.self ≡ joined (joined (table_of c.self.inside.rings) (link_at (table_of c.self.inside.rings) (Head c.args.list)).before (Slot c.args.slot)) (Slot c.args.slot) (Head c.args.list) =
    c.join-2.ensures ∙ ap (λ (u : Table). joined u (Slot c.args.slot) (Head c.args.list)) (c.join.ensures ∙ ap (λ (k : Link). joined (table_of c.self.inside.rings) k.before (Slot c.args.slot)) c.link-tail.ensures) in
    (Calls.push-seen (table_of c.self.inside.rings) c.self.invariant c.args.self.now c.self.view_is c.args.list c.args.slot c.requires.list c.requires.slot c.requires.free (table_of c.join-2.new.self) is).0

pub returns : goal.returns
returns c =
    let is : table_of c.join-2.new.self ≡ joined (joined (table_of c.self.inside.rings) (link_at (table_of c.self.inside.rings) (Head c.args.list)).before (Slot c.args.slot)) (Slot c.args.slot) (Head c.args.list) =
    c.join-2.ensures ∙ ap (λ (u : Table). joined u (Slot c.args.slot) (Head c.args.list)) (c.join.ensures ∙ ap (λ (k : Link). joined (table_of c.self.inside.rings) k.before (Slot c.args.slot)) c.link-tail.ensures) in
    (Calls.push-seen (table_of c.self.inside.rings) c.self.invariant c.args.self.now c.self.view_is c.args.list c.args.slot c.requires.list c.requires.slot c.requires.free (table_of c.join-2.new.self) is).1
