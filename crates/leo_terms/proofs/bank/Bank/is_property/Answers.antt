use Rattle.leo_terms.proofs.Rebuild.{IsSoundNode-leaf}
use Rattle.leo_terms.proofs.bank.Bank.is_property.Goals as goal

pub ty_node-requires : goal.ty_node-requires
ty_node-requires c = rw c.ty_of.ensures.number (IsSoundNode-leaf c.args.self.now c.ty_of.ensures.sound c.in-Some.t (rw c.in-Some.is at c.requires))
