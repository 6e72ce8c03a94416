use Rattle.std.proofs.Common.{◌∙◌, sym}
use Rattle.leo_terms.proofs.CallerLemmas.{extends-itself, extends-trans, type_number-within}
use Rattle.leo_unify.proofs.PatternSteps.{long-some}
use Rattle.leo_unify.proofs.pattern.long_index.Goals as goal

pub returns-in_err-index-clause-grows : goal.returns-in_err-index-clause-grows
returns-in_err-index-clause-grows c = extends-itself c.is_sound.ensures.sound

pub make_bound-requires : goal.make_bound-requires
make_bound-requires c = rw c.type_of-ty.ensures.number (type_number-within c.is_sound.ensures.sound c.args.t c.requires)

pub returns-in_err-long-in-Some-clause-grows : goal.returns-in_err-long-in-Some-clause-grows
returns-in_err-long-in-Some-clause-grows c = extends-trans c.make_bound.ensures.grows c.normal.ensures.grows

pub returns-then-eq-clause-value : goal.returns-then-eq-clause-value
returns-then-eq-clause-value c = rw c.if-eq.true at (long-some c.make_bound.ensures.grows c.normal.ensures.grows c.args.t c.requires c.in-Some.index c.in_ok-bound-in-Some.bound c.in_ok-long-in-Some.long (sym c.in-Some.is ∙ c.in_ok-index.ensures) (rw c.type_of-ty.ensures.number at c.in_ok-bound-in-Some.ensures.made) c.in_ok-long-in-Some.ensures.made c.eq.result c.eq.ensures)

pub returns-then-eq-clause-grows : goal.returns-then-eq-clause-grows
returns-then-eq-clause-grows c = extends-trans c.make_bound.ensures.grows c.normal.ensures.grows

pub returns-else-eq-clause-value : goal.returns-else-eq-clause-value
returns-else-eq-clause-value c = rw c.if-eq.false at (long-some c.make_bound.ensures.grows c.normal.ensures.grows c.args.t c.requires c.in-Some.index c.in_ok-bound-in-Some.bound c.in_ok-long-in-Some.long (sym c.in-Some.is ∙ c.in_ok-index.ensures) (rw c.type_of-ty.ensures.number at c.in_ok-bound-in-Some.ensures.made) c.in_ok-long-in-Some.ensures.made c.eq.result c.eq.ensures)

pub returns-else-eq-clause-grows : goal.returns-else-eq-clause-grows
returns-else-eq-clause-grows c = extends-trans c.make_bound.ensures.grows c.normal.ensures.grows

pub returns-in-None-clause-grows : goal.returns-in-None-clause-grows
returns-in-None-clause-grows c = extends-itself c.is_sound.ensures.sound
