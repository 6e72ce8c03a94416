use Rattle.std.proofs.Common.{◌∙◌, sym}
use Rattle.leo_elab.proofs.Places.{named-lookup}
use Rattle.leo_elab.proofs.names.Names.type_named.Goals as goal

pub returns : goal.returns
returns c = rw (← c.self.view_is) (c.copied.ensures ∙ c.get.ensures.value ∙ sym (named-lookup (λ v. v.items) c.args.atom.now c.self.inside.types.entries))
