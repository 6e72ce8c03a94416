use Rattle.std.proofs.Common.{ap, ◌∙◌}
use Rattle.leo_lists.specs.declared.rings.Link.{Link}
use Rattle.leo_lists.specs.Rings.{slot_of}
use Rattle.leo_lists.specs.Views.{table_of}
use Rattle.leo_lists.proofs.Calls
use Rattle.leo_lists.proofs.slots.Slots.next.Goals as goal

pub link-requires : goal.link-requires
link-requires c = (Calls.unlink-requires (table_of c.self.inside.rings) c.self.invariant c.args.self.now c.self.view_is c.args.slot c.requires).0

pub returns : goal.returns
returns c = λ l i b k. c.slot_of.ensures ∙ (ap (λ (x : Link). slot_of x.after) c.link.ensures ∙
    Calls.next-seen (table_of c.self.inside.rings) c.self.invariant c.args.self.now c.self.view_is c.args.slot l i b k)
