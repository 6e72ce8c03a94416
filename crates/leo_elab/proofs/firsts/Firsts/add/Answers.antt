use Rattle.std.proofs.Common.{refl}
use Rattle.leo_elab.proofs.Declarations.{added-read}
use Rattle.leo_elab.proofs.firsts.Firsts.add.Goals as goal

pub returns : goal.returns
returns c = rw (← c.self.view_is, added-read (λ v. v.items) (λ t. t.now) c.self.inside.types c.in_ok-key.key c.args.ty (rw c.in_ok-key.ensures.items (rw (← c.self.view_is) at c.requires)) c.insert.new.self.entries c.in_ok-insert.ensures.entries, c.in_ok-key.ensures.items) refl
