use Rattle.std.proofs.Common.{◌∙◌, sym, ap, option_copied}
use Rattle.leo_elab.proofs.Declarations.{named-read}
use Rattle.leo_elab.proofs.firsts.Firsts.type_of.Goals as goal

pub returns : goal.returns
returns c = rw (← c.self.view_is) (ap option_copied (c.copied.ensures ∙ c.get.ensures.value) ∙ sym (named-read (λ v. v.items) (λ t. t.now) c.args.atom.now c.self.inside.types.entries))
