use Rattle.std.proofs.Common.{◌∙◌, sym}
use Rattle.leo_terms.proofs.CallerLemmas.{extends-itself}
use Rattle.leo_elab.proofs.Places.{scope-length}
use Rattle.leo_elab.proofs.Atoms.{variable-free, variable-made}
use Rattle.leo_elab.proofs.terms.variable.Goals as goal

pub returns-in_default-clause-refusal : goal.returns-in_default-clause-refusal
returns-in_default-clause-refusal c = λ n d s k. variable-free k c.requires.top (c.in_default.ensures.found c.args.bank.now)

pub returns-in_default-clause-grows : goal.returns-in_default-clause-grows
returns-in_default-clause-grows c = extends-itself c.is_sound.ensures.sound

pub returns-in_default-try_from-clause-grows : goal.returns-in_default-try_from-clause-grows
returns-in_default-try_from-clause-grows c = extends-itself c.is_sound.ensures.sound

pub returns-clause-value : goal.returns-clause-value
returns-clause-value c = λ d s k. variable-made c.make_bound.ensures.grows k c.requires.top (c.in-Some.ensures.found c.args.bank.now) (c.in-Some.ensures.inside ∙ sym (scope-length c.args.bank.now c.args.scope.now)) (c.in-Some.ensures.within c.args.bank.now c.requires.place.bound) (rw c.in-Ok.ensures.1 at c.in_ok-t.ensures.made)
