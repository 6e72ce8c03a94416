use Rattle.std.proofs.Common.{rules}
use Rattle.leo_terms.proofs.CallerLemmas.{new_bank, extends-itself, extends-trans, type-kept}
use Rattle.leo_elab.specs.Meaning as meaning
use Rattle.leo_elab.specs.Meaning.{MeansType, Means, Applies, Binds}
use Rattle.leo_elab.specs.Offences as offence
use Rattle.leo_elab.specs.Offences.{OffendsInType, Offends, OffendsAsFormula, OffendsInArguments, OffendsInBinding}
use Rattle.leo_elab.proofs.Places.{declared-kept, knows-kept}
use Rattle.std.proofs.lemmas.Result.{err_from_is_err_and}
use Rattle.leo_elab.proofs.Tops.{base-top, arrow-top}
use Rattle.leo_terms.proofs.CallerLemmas.{reads-arrow}
use Rattle.leo_elab.proofs.types.+read_type.Goals as goal

pub word_type-requires-clause-top : goal.word_type-requires-clause-top
word_type-requires-clause-top t c = base-top _ _ c.in-Base.is

pub returns-in_default-clause-grows : goal.returns-in_default-clause-grows
returns-in_default-clause-grows t c = extends-itself c.is_sound.ensures.sound

pub returns-in_err-known-in-Base-clause-grows : goal.returns-in_err-known-in-Base-clause-grows
returns-in_err-known-in-Base-clause-grows t c = extends-itself c.is_sound.ensures.sound

pub returns-in_ok-known-in-Base-clause-grows : goal.returns-in_ok-known-in-Base-clause-grows
returns-in_ok-known-in-Base-clause-grows t c = extends-itself c.is_sound.ensures.sound

pub returns-in_err-a-in-Arrow-clause-refusal : goal.returns-in_err-a-in-Arrow-clause-refusal
returns-in_err-a-in-Arrow-clause-refusal t c = let p = err_from_is_err_and c.from_residual-in_err-a-in-Arrow.result c.from_residual-in_err-a-in-Arrow.ensures.1 in rw (p.1, p.2) (λ n d k. offence.in_domain (arrow-top _ _ _ c.in-Arrow.is) (rw c.get.ensures at (c.in_err-a-in-Arrow.ensures.refusal n d k)))

pub read_type-requires-in-Arrow : goal.read_type-requires-in-Arrow
read_type-requires-in-Arrow t c = (search rules, (declared-kept c.read_type.ensures.grows c.args.names.now c.requires).1)

pub returns-in_err-b-in-Arrow-clause-refusal : goal.returns-in_err-b-in-Arrow-clause-refusal
returns-in_err-b-in-Arrow-clause-refusal t c = let p = err_from_is_err_and c.from_residual-in_err-b-in-Arrow.result c.from_residual-in_err-b-in-Arrow.ensures.1 in rw (p.1, p.2) (λ n d k. offence.in_range (arrow-top _ _ _ c.in-Arrow.is) (rw c.get.ensures at (c.in_ok-a-in-Arrow.ensures.value d k)) (rw c.get-in-Arrow.ensures at (c.in_err-b-in-Arrow.ensures.refusal n d (knows-kept c.read_type.ensures.grows k))))

pub returns-in_err-b-in-Arrow-clause-grows : goal.returns-in_err-b-in-Arrow-clause-grows
returns-in_err-b-in-Arrow-clause-grows t c = extends-trans c.read_type.ensures.grows c.read_type-in-Arrow.ensures.grows

pub returns-in_err-whole-in-Arrow-clause-grows : goal.returns-in_err-whole-in-Arrow-clause-grows
returns-in_err-whole-in-Arrow-clause-grows t c = extends-trans (extends-trans c.read_type.ensures.grows c.read_type-in-Arrow.ensures.grows) c.arrow.ensures.grows

pub returns-in_ok-whole-in-Arrow-clause-value : goal.returns-in_ok-whole-in-Arrow-clause-value
returns-in_ok-whole-in-Arrow-clause-value t c = λ d k. let e = c.read_type.ensures.grows in let f = c.read_type-in-Arrow.ensures.grows in let g = c.arrow.ensures.grows in let ef = extends-trans f g in rw (reads-arrow (new_bank g) c.in_ok-whole-in-Arrow.ensures.made, type-kept ef c.in_ok-a-in-Arrow.a c.in_ok-a-in-Arrow.ensures.within, type-kept g c.in_ok-b-in-Arrow.b c.in_ok-b-in-Arrow.ensures.within) (meaning.functions (arrow-top _ _ _ c.in-Arrow.is) (rw c.get.ensures at (c.in_ok-a-in-Arrow.ensures.value d k)) (rw c.get-in-Arrow.ensures at (c.in_ok-b-in-Arrow.ensures.value d (knows-kept e k))))

pub returns-in_ok-whole-in-Arrow-clause-grows : goal.returns-in_ok-whole-in-Arrow-clause-grows
returns-in_ok-whole-in-Arrow-clause-grows t c = extends-trans (extends-trans c.read_type.ensures.grows c.read_type-in-Arrow.ensures.grows) c.arrow.ensures.grows
