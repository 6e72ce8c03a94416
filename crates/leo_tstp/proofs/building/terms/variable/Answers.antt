use Rattle.leo_terms.proofs.CallerLemmas.{extends-itself}
use Rattle.leo_tstp.proofs.Built.{type-there, built-var}
use Rattle.leo_tstp.proofs.building.terms.variable.Goals as goal

pub returns-then-place-variables-clause-grows : goal.returns-then-place-variables-clause-grows
returns-then-place-variables-clause-grows c = extends-itself c.is_sound.ensures.sound

pub make_var-requires : goal.make_var-requires
make_var-requires c = type-there c.args.bank.now c.args.variables.now c.requires c.args.number c.index-variables-place.result c.if-place-variables.false c.index-variables-place.is

pub returns-clause-built : goal.returns-clause-built
returns-clause-built c = λ s v. built-var c.make_var.ensures.grows c.in_ok-t.ensures.made c.args.variables.now s c.requires v c.if-place-variables.false c.index-variables-place.is
