use Rattle.fo_super.proofs.Naming.{with-new, with-there}
use Rattle.fo_super.proofs.numbering.add_name.Goals as goal

pub returns-in-Some : goal.returns-in-Some
returns-in-Some c = with-there c.args.names.now.items c.args.name c.in-Some._place (rw c.deref.ensures.value at c.in-Some.ensures)

pub returns-in_ok-push-in-None : goal.returns-in_ok-push-in-None
returns-in_ok-push-in-None c = with-new c.args.names.now.items c.push.new.self.items c.args.name (rw c.deref.ensures.value at c.in-None.ensures) c.in_ok-push-in-None.ensures.items
