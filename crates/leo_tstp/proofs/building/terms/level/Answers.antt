use Rattle.leo_terms.proofs.CallerLemmas.{extends-itself}
use Rattle.leo_tstp.proofs.Built.{type-there, built-level}
use Rattle.leo_tstp.proofs.building.terms.level.Goals as goal

pub returns-then-level-scope-clause-grows : goal.returns-then-level-scope-clause-grows
returns-then-level-scope-clause-grows c = extends-itself c.is_sound.ensures.sound

pub returns-in_default-clause-grows : goal.returns-in_default-clause-grows
returns-in_default-clause-grows c = extends-itself c.is_sound.ensures.sound

pub make_bound-requires : goal.make_bound-requires
make_bound-requires c = type-there c.args.bank.now c.args.scope.now c.requires c.args.level c.index-scope-level.result c.if-level-scope.false c.index-scope-level.is

pub returns-clause-built : goal.returns-clause-built
returns-clause-built c = λ vs v. built-level c.make_bound.ensures.grows c.in_ok-t.ensures.made vs c.args.scope.now v c.requires c.if-level-scope.false c.index-scope-level.is c.in-Some.ensures
