use Rattle.leo_lists.specs.Views.{table_of}
use Rattle.leo_lists.proofs.Calls
use Rattle.leo_lists.proofs.slots.Slots.grow.Goals as goal

pub invariant_of-self : goal.invariant_of-self
invariant_of-self c = (Calls.grow-seen (table_of c.self.inside.rings) c.self.invariant c.args.self.now c.self.view_is c.args.lists c.args.slots c.requires.lists c.requires.slots
    c.grow.result (table_of c.grow.new.self) c.grow.ensures).0

pub returns : goal.returns
returns c = (Calls.grow-seen (table_of c.self.inside.rings) c.self.invariant c.args.self.now c.self.view_is c.args.lists c.args.slots c.requires.lists c.requires.slots
    c.grow.result (table_of c.grow.new.self) c.grow.ensures).1
