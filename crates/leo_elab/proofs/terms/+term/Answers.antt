use Rattle.std.proofs.Common.{◌∙◌, sym, rules, ◌∷◌, length}
use Rattle.leo_q0.specs.Terms.{truth, arrow, apply}
use Rattle.leo_terms.specs.Contents.{type_at}
use Rattle.leo_terms.proofs.CallerLemmas.{extends-itself, extends-trans, type-kept}
use Rattle.leo_elab.specs.Problem.{Declared, Scope, outside}
use Rattle.leo_elab.specs.Table.{declared_in}
use Rattle.leo_elab.specs.Signs as sign
use Rattle.leo_elab.specs.Meaning as meaning
use Rattle.leo_elab.specs.Meaning.{MeansType, Means, Applies, Binds}
use Rattle.leo_elab.specs.Offences as offence
use Rattle.leo_elab.specs.Offences.{OffendsInType, Offends, OffendsAsFormula, OffendsInArguments, OffendsInBinding}
use Rattle.leo_elab.specs.Places.{scope_in, types_in, Around}
use Rattle.leo_elab.proofs.Standing.{stands-kept, formula-type, formula-kept, stands-bound, not-truth, same-true, same-false}
use Rattle.leo_elab.proofs.Places.{around-itself, types-length}
use Rattle.std.proofs.lemmas.Result.{err_from_is_err_and}
use Rattle.leo_elab.proofs.Tops.{true-top, false-top, bind-top, not-top, join-top, equal-top, negation-top, connective-top, pi-top, sigma-top, choice-top}
use Rattle.leo_elab.proofs.Forms.{place-next, around-next, place-enter, around-enter, type-same, first-of, empty-of, top-first, top-empty, arguments-first, applies-first, arguments-none, binding-first, binding-none, binds-first, binds-none, alone-pi, alone-sigma, alone-choice}
use Rattle.leo_q0.specs.Connectives.{not_term, true_term, false_term}
use Rattle.leo_elab.proofs.terms.+term.Goals as goal

pub application-returns-in_default-clause-grows : goal.application-returns-in_default-clause-grows
application-returns-in_default-clause-grows t c = extends-itself c.is_sound.ensures.sound

pub application-returns-in_err-f-in-None-default-clause-refusal : goal.application-returns-in_err-f-in-None-default-clause-refusal
application-returns-in_err-f-in-None-default-clause-refusal t c = let p = err_from_is_err_and c.from_residual.result c.from_residual.ensures.1 in rw (p.1, p.2) (λ n d s k. offence.in_head c.requires.top (sym c.quantifier_of.ensures ∙ c.in-None-default.is-0) (c.in_err-f-in-None-default.ensures.refusal n d s k))

pub application-arguments-requires : goal.application-arguments-requires
application-arguments-requires t c = (search rules, (place-next c.term.ensures.grows c.in_ok-f-in-None-default.ensures.scope c.requires.place, c.in_ok-f-in-None-default.ensures.within))

pub application-returns-in_err-t-in-None-default-clause-refusal : goal.application-returns-in_err-t-in-None-default-clause-refusal
application-returns-in_err-t-in-None-default-clause-refusal t c = let p = err_from_is_err_and c.from_residual-in_err-t-in-None-default.result c.from_residual-in_err-t-in-None-default.ensures.1 in rw (p.1, p.2) (λ n d s k. let f = c.in_ok-f-in-None-default.ensures.value d s k in offence.in_arguments c.requires.top (sym c.quantifier_of.ensures ∙ c.in-None-default.is-0) f.means (rw f.stands.typed at (c.in_err-t-in-None-default.ensures.refusal n d s (around-next c.term.ensures.grows c.in_ok-f-in-None-default.ensures.scope k))))

pub application-returns-in_err-t-in-None-default-clause-grows : goal.application-returns-in_err-t-in-None-default-clause-grows
application-returns-in_err-t-in-None-default-clause-grows t c = extends-trans c.term.ensures.grows c.arguments.ensures.grows

pub application-returns-in_ok-t-in-None-default-clause-value : goal.application-returns-in_ok-t-in-None-default-clause-value
application-returns-in_ok-t-in-None-default-clause-value t c = λ d s k. let f = c.in_ok-f-in-None-default.ensures.value d s k in let g = c.in_ok-t-in-None-default.ensures.value d s f.term f.type (around-next c.term.ensures.grows c.in_ok-f-in-None-default.ensures.scope k) f.stands in record { term = g.term; type = g.type; means = meaning.application c.requires.top (sym c.quantifier_of.ensures ∙ c.in-None-default.is-0) f.means g.applies; stands = g.stands }

pub application-returns-in_ok-t-in-None-default-clause-grows : goal.application-returns-in_ok-t-in-None-default-clause-grows
application-returns-in_ok-t-in-None-default-clause-grows t c = extends-trans c.term.ensures.grows c.arguments.ensures.grows

pub application-returns-in_err-p-in-Some-len1-up-clause-refusal : goal.application-returns-in_err-p-in-Some-len1-up-clause-refusal
application-returns-in_err-p-in-Some-len1-up-clause-refusal t c = let p = err_from_is_err_and c.from_residual-in_err-p-in-Some-len1-up.result c.from_residual-in_err-p-in-Some-len1-up.ensures.1 in rw (p.1, p.2) (λ n d s k. offence.in_set (top-first c.args.tree.now c.args.head.now c.args.list.now c.set-item.result c.requires.top c.in-Some-len1-up.len_at_least c.set-item.is) (sym c.quantifier_of.ensures ∙ c.in-Some-len1-up.is-0) (c.in_err-p-in-Some-len1-up.ensures.refusal n d s k))

pub application-returns-in_err-f-in-Some-len1-up-clause-refusal : goal.application-returns-in_err-f-in-Some-len1-up-clause-refusal
application-returns-in_err-f-in-Some-len1-up-clause-refusal t c = let p = err_from_is_err_and c.from_residual-in_err-f-in-Some-len1-up.result c.from_residual-in_err-f-in-Some-len1-up.ensures.1 in rw (p.1, p.2) (λ n d s k. let f = c.in_ok-p-in-Some-len1-up.ensures.value d s k in rw (c.in_err-f-in-Some-len1-up.ensures.byte n) (offence.no_set (top-first c.args.tree.now c.args.head.now c.args.list.now c.set-item.result c.requires.top c.in-Some-len1-up.len_at_least c.set-item.is) (sym c.quantifier_of.ensures ∙ c.in-Some-len1-up.is-0) f.means (rw f.stands.typed at (c.in_err-f-in-Some-len1-up.ensures.misfit n))))

pub application-returns-in_err-f-in-Some-len1-up-clause-grows : goal.application-returns-in_err-f-in-Some-len1-up-clause-grows
application-returns-in_err-f-in-Some-len1-up-clause-grows t c = extends-trans c.term-in-Some-len1-up.ensures.grows c.quantified.ensures.grows

pub application-arguments-requires-in-Some-len1-up : goal.application-arguments-requires-in-Some-len1-up
application-arguments-requires-in-Some-len1-up t c = (search rules, (place-next (extends-trans c.term-in-Some-len1-up.ensures.grows c.quantified.ensures.grows) c.in_ok-p-in-Some-len1-up.ensures.scope c.requires.place, c.in_ok-f-in-Some-len1-up.ensures.within))

pub application-returns-in_err-t-in-Some-len1-up-clause-refusal : goal.application-returns-in_err-t-in-Some-len1-up-clause-refusal
application-returns-in_err-t-in-Some-len1-up-clause-refusal t c = let p = err_from_is_err_and c.from_residual-in_err-t-in-Some-len1-up.result c.from_residual-in_err-t-in-Some-len1-up.ensures.1 in rw (p.1, p.2) (λ n d s k. let f = c.in_ok-p-in-Some-len1-up.ensures.value d s k in let q = c.in_ok-f-in-Some-len1-up.ensures.made (types_in s) f.term f.type f.stands in offence.behind_set (top-first c.args.tree.now c.args.head.now c.args.list.now c.set-item.result c.requires.top c.in-Some-len1-up.len_at_least c.set-item.is) (sym c.quantifier_of.ensures ∙ c.in-Some-len1-up.is-0) f.means q.fits (rw q.stands.typed at (c.in_err-t-in-Some-len1-up.ensures.refusal n d s (around-next (extends-trans c.term-in-Some-len1-up.ensures.grows c.quantified.ensures.grows) c.in_ok-p-in-Some-len1-up.ensures.scope k))))

pub application-returns-in_err-t-in-Some-len1-up-clause-grows : goal.application-returns-in_err-t-in-Some-len1-up-clause-grows
application-returns-in_err-t-in-Some-len1-up-clause-grows t c = extends-trans (extends-trans c.term-in-Some-len1-up.ensures.grows c.quantified.ensures.grows) c.arguments-in-Some-len1-up.ensures.grows

pub application-returns-in_ok-t-in-Some-len1-up-clause-value : goal.application-returns-in_ok-t-in-Some-len1-up-clause-value
application-returns-in_ok-t-in-Some-len1-up-clause-value t c = λ d s k. let f = c.in_ok-p-in-Some-len1-up.ensures.value d s k in let q = c.in_ok-f-in-Some-len1-up.ensures.made (types_in s) f.term f.type f.stands in let g = c.in_ok-t-in-Some-len1-up.ensures.value d s (sign.quantified c.in-Some-len1-up.quantifier q.type f.term) (sign.quantified_type c.in-Some-len1-up.quantifier q.type) (around-next (extends-trans c.term-in-Some-len1-up.ensures.grows c.quantified.ensures.grows) c.in_ok-p-in-Some-len1-up.ensures.scope k) q.stands in record { term = g.term; type = g.type; means = meaning.quantification (top-first c.args.tree.now c.args.head.now c.args.list.now c.set-item.result c.requires.top c.in-Some-len1-up.len_at_least c.set-item.is) (sym c.quantifier_of.ensures ∙ c.in-Some-len1-up.is-0) f.means q.fits g.applies; stands = g.stands }

pub application-returns-in_ok-t-in-Some-len1-up-clause-grows : goal.application-returns-in_ok-t-in-Some-len1-up-clause-grows
application-returns-in_ok-t-in-Some-len1-up-clause-grows t c = extends-trans (extends-trans c.term-in-Some-len1-up.ensures.grows c.quantified.ensures.grows) c.arguments-in-Some-len1-up.ensures.grows

pub application-returns-in-Some-empty-clause-refusal : goal.application-returns-in-Some-empty-clause-refusal
application-returns-in-Some-empty-clause-refusal t c = λ n d s k. offence.no_argument_applied (top-empty c.args.tree.now c.args.head.now c.args.list.now c.requires.top c.in-Some-empty.len_below) (sym c.quantifier_of.ensures ∙ c.in-Some-empty.is-0)

pub application-returns-in-Some-empty-clause-grows : goal.application-returns-in-Some-empty-clause-grows
application-returns-in-Some-empty-clause-grows t c = extends-itself c.is_sound.ensures.sound

pub arguments-returns-in_default-clause-grows : goal.arguments-returns-in_default-clause-grows
arguments-returns-in_default-clause-grows t c = extends-itself c.is_sound.ensures.sound

pub arguments-returns-in_err-x-in-len1-up-clause-refusal : goal.arguments-returns-in_err-x-in-len1-up-clause-refusal
arguments-returns-in_err-x-in-len1-up-clause-refusal t c = let p = err_from_is_err_and c.from_residual.result c.from_residual.ensures.1 in rw (p.1, p.2) (λ n d s k. arguments-first (first-of c.args.list.now c.first-item.result c.in-len1-up.len_at_least c.first-item.is) (offence.in_argument (c.in_err-x-in-len1-up.ensures.refusal n d s k)))

pub arguments-returns-in_err-whole-in-len1-up-clause-refusal : goal.arguments-returns-in_err-whole-in-len1-up-clause-refusal
arguments-returns-in_err-whole-in-len1-up-clause-refusal t c = let p = err_from_is_err_and c.from_residual-in_err-whole-in-len1-up.result c.from_residual-in_err-whole-in-len1-up.ensures.1 in rw (p.1, p.2) (λ n d s k. let x = c.in_ok-x-in-len1-up.ensures.value d s k in rw (c.in_err-whole-in-len1-up.ensures.byte n) (arguments-first (first-of c.args.list.now c.first-item.result c.in-len1-up.len_at_least c.first-item.is) (offence.misfit x.means (rw (type-same c.args.f c.term.ensures.grows c.requires.function, x.stands.typed) at (c.in_err-whole-in-len1-up.ensures.misfit n)))))

pub arguments-returns-in_err-whole-in-len1-up-clause-grows : goal.arguments-returns-in_err-whole-in-len1-up-clause-grows
arguments-returns-in_err-whole-in-len1-up-clause-grows t c = extends-trans c.term.ensures.grows c.applied.ensures.grows

pub arguments-arguments-requires : goal.arguments-arguments-requires
arguments-arguments-requires t c = (search rules, (place-next (extends-trans c.term.ensures.grows c.applied.ensures.grows) c.in_ok-x-in-len1-up.ensures.scope c.requires.place, c.in_ok-whole-in-len1-up.ensures.within))

pub arguments-returns-in_err-t-in-len1-up-clause-refusal : goal.arguments-returns-in_err-t-in-len1-up-clause-refusal
arguments-returns-in_err-t-in-len1-up-clause-refusal t c = let p = err_from_is_err_and c.from_residual-in_err-t-in-len1-up.result c.from_residual-in_err-t-in-len1-up.ensures.1 in rw (p.1, p.2) (λ n d s k. let x = c.in_ok-x-in-len1-up.ensures.value d s k in arguments-first (first-of c.args.list.now c.first-item.result c.in-len1-up.len_at_least c.first-item.is) (offence.later x.means (rw (type-same c.args.f c.term.ensures.grows c.requires.function, x.stands.typed) at c.in_ok-whole-in-len1-up.ensures.fits) (c.in_err-t-in-len1-up.ensures.refusal n d s (around-next (extends-trans c.term.ensures.grows c.applied.ensures.grows) c.in_ok-x-in-len1-up.ensures.scope k))))

pub arguments-returns-in_err-t-in-len1-up-clause-grows : goal.arguments-returns-in_err-t-in-len1-up-clause-grows
arguments-returns-in_err-t-in-len1-up-clause-grows t c = extends-trans (extends-trans c.term.ensures.grows c.applied.ensures.grows) c.arguments.ensures.grows

pub arguments-returns-in-empty-clause-value : goal.arguments-returns-in-empty-clause-value
arguments-returns-in-empty-clause-value t c = λ d s m a k h. arguments-none c.args.list.now c.in-empty.len_below h

pub arguments-returns-in-empty-clause-grows : goal.arguments-returns-in-empty-clause-grows
arguments-returns-in-empty-clause-grows t c = extends-itself c.is_sound.ensures.sound

pub arguments-returns-in_ok-t-in-len1-up-clause-value : goal.arguments-returns-in_ok-t-in-len1-up-clause-value
arguments-returns-in_ok-t-in-len1-up-clause-value t c = λ d s m a k h. let x = c.in_ok-x-in-len1-up.ensures.value d s k in let w = c.in_ok-whole-in-len1-up.ensures.made (types_in s) m x.term a x.type (stands-kept c.term.ensures.grows h) x.stands in let g = c.in_ok-t-in-len1-up.ensures.value d s (apply m x.term) w.type (around-next (extends-trans c.term.ensures.grows c.applied.ensures.grows) c.in_ok-x-in-len1-up.ensures.scope k) w.stands in record { term = g.term; type = g.type; applies = applies-first (first-of c.args.list.now c.first-item.result c.in-len1-up.len_at_least c.first-item.is) (meaning.one_more x.means w.fits g.applies); stands = g.stands }

pub arguments-returns-in_ok-t-in-len1-up-clause-grows : goal.arguments-returns-in_ok-t-in-len1-up-clause-grows
arguments-returns-in_ok-t-in-len1-up-clause-grows t c = extends-trans (extends-trans c.term.ensures.grows c.applied.ensures.grows) c.arguments.ensures.grows

pub binding-returns-in_default-clause-grows : goal.binding-returns-in_default-clause-grows
binding-returns-in_default-clause-grows t c = extends-itself c.is_sound.ensures.sound

pub binding-returns-in_err-t-in-empty-clause-refusal : goal.binding-returns-in_err-t-in-empty-clause-refusal
binding-returns-in_err-t-in-empty-clause-refusal t c = let p = err_from_is_err_and c.from_residual.result c.from_residual.ensures.1 in rw (p.1, p.2) (λ n d s k. binding-none (empty-of c.args.variables.now c.in-empty.len_below) (offence.in_body (c.in_err-t-in-empty.ensures.refusal n d s k)))

pub binding-returns-in_err-ty-in-len1-up-clause-refusal : goal.binding-returns-in_err-ty-in-len1-up-clause-refusal
binding-returns-in_err-ty-in-len1-up-clause-refusal t c = let p = err_from_is_err_and c.from_residual-in_err-ty-in-len1-up.result c.from_residual-in_err-ty-in-len1-up.ensures.1 in rw (p.1, p.2) (λ n d s k. binding-first (first-of c.args.variables.now c.first-item.result c.in-len1-up.len_at_least c.first-item.is) (offence.in_type (c.in_err-ty-in-len1-up.ensures.refusal n d k.knows)))

pub binding-binding-requires : goal.binding-binding-requires
binding-binding-requires t c = (search rules, place-enter _ c.read_type.ensures.grows c.in_ok-enter-in-len1-up.ensures c.requires c.in_ok-ty-in-len1-up.ensures.within)

pub binding-returns-in_err-t-in-len1-up-clause-refusal : goal.binding-returns-in_err-t-in-len1-up-clause-refusal
binding-returns-in_err-t-in-len1-up-clause-refusal t c = let p = err_from_is_err_and c.from_residual-in_err-t-in-len1-up.result c.from_residual-in_err-t-in-len1-up.ensures.1 in rw (p.1, p.2) (λ n d s k. binding-first (first-of c.args.variables.now c.first-item.result c.in-len1-up.len_at_least c.first-item.is) (offence.behind_variable (c.in_ok-ty-in-len1-up.ensures.value d k.knows) (c.in_err-t-in-len1-up.ensures.refusal n d ((c.first-item.result.name, (type_at c.read_type.new.bank c.in_ok-ty-in-len1-up.ty)) ∷ s) (rw c.as_slice.ensures at (around-enter _ c.read_type.ensures.grows c.in_ok-enter-in-len1-up.ensures k c.in_ok-ty-in-len1-up.ensures.within)))))

pub binding-returns-in_err-t-in-len1-up-clause-grows : goal.binding-returns-in_err-t-in-len1-up-clause-grows
binding-returns-in_err-t-in-len1-up-clause-grows t c = extends-trans c.read_type.ensures.grows c.binding.ensures.grows

pub binding-bound-requires-clause-typed : goal.binding-bound-requires-clause-typed
binding-bound-requires-clause-typed t c = let d : Declared = declared_in c.args.bank.now c.args.names.now in let s : Scope = scope_in c.args.bank.now c.args.scope.now.items in let k : Around c.args.bank.now c.args.names.now c.args.scope.now.items d s = around-itself c.requires in let f = c.in_ok-t-in-len1-up.ensures.value d ((c.first-item.result.name, (type_at c.read_type.new.bank c.in_ok-ty-in-len1-up.ty)) ∷ s) (rw c.as_slice.ensures at (around-enter _ c.read_type.ensures.grows c.in_ok-enter-in-len1-up.ensures k c.in_ok-ty-in-len1-up.ensures.within)) in rw (type-kept c.binding.ensures.grows c.in_ok-ty-in-len1-up.ty c.in_ok-ty-in-len1-up.ensures.within) (stands-bound f.stands)

pub binding-returns-in_err-whole-in-len1-up-clause-refusal : goal.binding-returns-in_err-whole-in-len1-up-clause-refusal
binding-returns-in_err-whole-in-len1-up-clause-refusal t c = let p = err_from_is_err_and c.from_residual-in_err-whole-in-len1-up.result c.from_residual-in_err-whole-in-len1-up.ensures.1 in rw (p.1, p.2) (λ n d s k. let f = c.in_ok-t-in-len1-up.ensures.value d ((c.first-item.result.name, (type_at c.read_type.new.bank c.in_ok-ty-in-len1-up.ty)) ∷ s) (rw c.as_slice.ensures at (around-enter _ c.read_type.ensures.grows c.in_ok-enter-in-len1-up.ensures k c.in_ok-ty-in-len1-up.ensures.within)) in rw (c.in_err-whole-in-len1-up.ensures.byte n) (binding-first (first-of c.args.variables.now c.first-item.result c.in-len1-up.len_at_least c.first-item.is) (offence.no_body (c.in_ok-ty-in-len1-up.ensures.value d k.knows) f.binds (rw f.stands.typed at (c.in_err-whole-in-len1-up.ensures.misfit n)))))

pub binding-returns-in_err-whole-in-len1-up-clause-grows : goal.binding-returns-in_err-whole-in-len1-up-clause-grows
binding-returns-in_err-whole-in-len1-up-clause-grows t c = extends-trans (extends-trans c.read_type.ensures.grows c.binding.ensures.grows) c.bound.ensures.grows

pub binding-returns-in_ok-t-in-empty-clause-value : goal.binding-returns-in_ok-t-in-empty-clause-value
binding-returns-in_ok-t-in-empty-clause-value t c = λ d s k. let f = c.in_ok-t-in-empty.ensures.value d s k in record { term = f.term; type = f.type; binds = binds-none (empty-of c.args.variables.now c.in-empty.len_below) (meaning.body f.means); stands = f.stands }

pub binding-returns-in_ok-whole-in-len1-up-clause-value : goal.binding-returns-in_ok-whole-in-len1-up-clause-value
binding-returns-in_ok-whole-in-len1-up-clause-value t c = λ d s k. let f = c.in_ok-t-in-len1-up.ensures.value d ((c.first-item.result.name, (type_at c.read_type.new.bank c.in_ok-ty-in-len1-up.ty)) ∷ s) (rw c.as_slice.ensures at (around-enter _ c.read_type.ensures.grows c.in_ok-enter-in-len1-up.ensures k c.in_ok-ty-in-len1-up.ensures.within)) in let w = c.in_ok-whole-in-len1-up.ensures.made (types_in s) f.term (type_at c.read_type.new.bank c.in_ok-ty-in-len1-up.ty) f.type (sym (type-kept c.binding.ensures.grows c.in_ok-ty-in-len1-up.ty c.in_ok-ty-in-len1-up.ensures.within)) f.stands in record { term = sign.bound c.args.binder (outside s (type_at c.read_type.new.bank c.in_ok-ty-in-len1-up.ty)) f.term; type = sign.bound_type c.args.binder (type_at c.read_type.new.bank c.in_ok-ty-in-len1-up.ty) f.type; binds = binds-first (first-of c.args.variables.now c.first-item.result c.in-len1-up.len_at_least c.first-item.is) (meaning.variable_of (c.in_ok-ty-in-len1-up.ensures.value d k.knows) f.binds w.0); stands = rw (types-length s) at w.1 }

pub binding-returns-in_ok-whole-in-len1-up-clause-grows : goal.binding-returns-in_ok-whole-in-len1-up-clause-grows
binding-returns-in_ok-whole-in-len1-up-clause-grows t c = extends-trans (extends-trans c.read_type.ensures.grows c.binding.ensures.grows) c.bound.ensures.grows

pub formula-returns-in_default-clause-grows : goal.formula-returns-in_default-clause-grows
formula-returns-in_default-clause-grows t c = extends-itself c.is_sound.ensures.sound

pub formula-returns-in_err-t-clause-refusal : goal.formula-returns-in_err-t-clause-refusal
formula-returns-in_err-t-clause-refusal t c = let p = err_from_is_err_and c.from_residual.result c.from_residual.ensures.1 in rw (p.1, p.2) (λ n d s k. offence.inside (c.in_err-t.ensures.refusal n d s k))

pub formula-returns-then-eq-clause-value : goal.formula-returns-then-eq-clause-value
formula-returns-then-eq-clause-value t c = λ d s k. let f = c.in_ok-t.ensures.value d s k in let e = formula-type c.type_of.ensures.sound (record { within = c.in_ok-t.ensures.within; formula = (sym c.type_of.ensures.number ∙ same-true _ _ (sym c.if-eq.ensures) ∙ c.truth.ensures) }) f.stands in record { term = f.term; means = rw e at f.means; stands = rw e at f.stands }

pub formula-returns-else-eq-clause-refusal : goal.formula-returns-else-eq-clause-refusal
formula-returns-else-eq-clause-refusal t c = λ n d s k. let f = c.in_ok-t.ensures.value d s k in offence.no_formula f.means (λ e. not-truth c.in_ok-t.t c.type_of.ensures.sound c.in_ok-t.ensures.within (λ z. same-false _ _ (sym c.if-eq.ensures) (c.type_of.ensures.number ∙ z ∙ sym c.truth.ensures)) (f.stands.typed ∙ e))

pub term-returns-in_default-clause-grows : goal.term-returns-in_default-clause-grows
term-returns-in_default-clause-grows t c = extends-itself c.is_sound.ensures.sound

pub term-returns-in_err-t-in-Bind-clause-refusal : goal.term-returns-in_err-t-in-Bind-clause-refusal
term-returns-in_err-t-in-Bind-clause-refusal t c = let p = err_from_is_err_and c.from_residual-in_err-t-in-Bind.result c.from_residual-in_err-t-in-Bind.ensures.1 in rw (p.1, p.2) (λ n d s k. offence.in_binding (bind-top _ _ _ _ c.in-Bind.is) (rw (c.as_slice-in-Bind.ensures, c.get-in-Bind.ensures) at (c.in_err-t-in-Bind.ensures.refusal n d s k)))

pub term-returns-in_ok-t-in-Bind-clause-value : goal.term-returns-in_ok-t-in-Bind-clause-value
term-returns-in_ok-t-in-Bind-clause-value t c = λ d s k. let f = rw (c.as_slice-in-Bind.ensures, c.get-in-Bind.ensures) at (c.in_ok-t-in-Bind.ensures.value d s k) in record { term = f.term; type = f.type; means = meaning.binding (bind-top _ _ _ _ c.in-Bind.is) f.binds; stands = f.stands }

pub term-returns-in_err-t-in-Not-clause-refusal : goal.term-returns-in_err-t-in-Not-clause-refusal
term-returns-in_err-t-in-Not-clause-refusal t c = let p = err_from_is_err_and c.from_residual-in_err-t-in-Not.result c.from_residual-in_err-t-in-Not.ensures.1 in rw (p.1, p.2) (λ n d s k. offence.in_negation (not-top _ _ c.in-Not.is) (rw c.get-in-Not.ensures at (c.in_err-t-in-Not.ensures.refusal n d s k)))

pub term-returns-in_err-whole-in-Not-clause-grows : goal.term-returns-in_err-whole-in-Not-clause-grows
term-returns-in_err-whole-in-Not-clause-grows t c = extends-trans c.formula.ensures.grows c.negated.ensures.grows

pub term-returns-in_ok-whole-in-Not-clause-value : goal.term-returns-in_ok-whole-in-Not-clause-value
term-returns-in_ok-whole-in-Not-clause-value t c = λ d s k. let f = rw c.get-in-Not.ensures at (c.in_ok-t-in-Not.ensures.value d s k) in record { term = apply not_term f.term; type = truth; means = meaning.negation (not-top _ _ c.in-Not.is) f.means; stands = c.in_ok-whole-in-Not.ensures.made (types_in s) f.term f.stands }

pub term-returns-in_ok-whole-in-Not-clause-grows : goal.term-returns-in_ok-whole-in-Not-clause-grows
term-returns-in_ok-whole-in-Not-clause-grows t c = extends-trans c.formula.ensures.grows c.negated.ensures.grows

pub term-returns-in_err-t-in-Join-clause-refusal : goal.term-returns-in_err-t-in-Join-clause-refusal
term-returns-in_err-t-in-Join-clause-refusal t c = let p = err_from_is_err_and c.from_residual-in_err-t-in-Join.result c.from_residual-in_err-t-in-Join.ensures.1 in rw (p.1, p.2) (λ n d s k. offence.in_left (join-top _ _ _ _ c.in-Join.is) (rw c.get-in-Join.ensures at (c.in_err-t-in-Join.ensures.refusal n d s k)))

pub term-formula-requires-in-Join-2 : goal.term-formula-requires-in-Join-2
term-formula-requires-in-Join-2 t c = (search rules, place-next c.formula-in-Join.ensures.grows c.in_ok-t-in-Join.ensures.scope c.requires)

pub term-returns-in_err-u-in-Join-clause-refusal : goal.term-returns-in_err-u-in-Join-clause-refusal
term-returns-in_err-u-in-Join-clause-refusal t c = let p = err_from_is_err_and c.from_residual-in_err-u-in-Join.result c.from_residual-in_err-u-in-Join.ensures.1 in rw (p.1, p.2) (λ n d s k. let f = rw c.get-in-Join.ensures at (c.in_ok-t-in-Join.ensures.value d s k) in offence.in_right (join-top _ _ _ _ c.in-Join.is) f.means (rw c.get-in-Join-2.ensures at (c.in_err-u-in-Join.ensures.refusal n d s (around-next c.formula-in-Join.ensures.grows c.in_ok-t-in-Join.ensures.scope k))))

pub term-returns-in_err-u-in-Join-clause-grows : goal.term-returns-in_err-u-in-Join-clause-grows
term-returns-in_err-u-in-Join-clause-grows t c = extends-trans c.formula-in-Join.ensures.grows c.formula-in-Join-2.ensures.grows

pub term-joined-requires-clause-left : goal.term-joined-requires-clause-left
term-joined-requires-clause-left t c = formula-kept c.formula-in-Join-2.ensures.grows c.in_ok-t-in-Join.ensures.formula

pub term-returns-in_err-whole-in-Join-clause-grows : goal.term-returns-in_err-whole-in-Join-clause-grows
term-returns-in_err-whole-in-Join-clause-grows t c = extends-trans (extends-trans c.formula-in-Join.ensures.grows c.formula-in-Join-2.ensures.grows) c.joined.ensures.grows

pub term-returns-in_ok-whole-in-Join-clause-value : goal.term-returns-in_ok-whole-in-Join-clause-value
term-returns-in_ok-whole-in-Join-clause-value t c = λ d s k. let f = rw c.get-in-Join.ensures at (c.in_ok-t-in-Join.ensures.value d s k) in let g = rw c.get-in-Join-2.ensures at (c.in_ok-u-in-Join.ensures.value d s (around-next c.formula-in-Join.ensures.grows c.in_ok-t-in-Join.ensures.scope k)) in record { term = sign.joined c.in-Join.connective f.term g.term; type = truth; means = meaning.joining (join-top _ _ _ _ c.in-Join.is) f.means g.means; stands = c.in_ok-whole-in-Join.ensures.made (types_in s) f.term g.term (stands-kept c.formula-in-Join-2.ensures.grows f.stands) g.stands }

pub term-returns-in_ok-whole-in-Join-clause-grows : goal.term-returns-in_ok-whole-in-Join-clause-grows
term-returns-in_ok-whole-in-Join-clause-grows t c = extends-trans (extends-trans c.formula-in-Join.ensures.grows c.formula-in-Join-2.ensures.grows) c.joined.ensures.grows

pub term-returns-in_err-t-in-Equal-clause-refusal : goal.term-returns-in_err-t-in-Equal-clause-refusal
term-returns-in_err-t-in-Equal-clause-refusal t c = let p = err_from_is_err_and c.from_residual-in_err-t-in-Equal.result c.from_residual-in_err-t-in-Equal.ensures.1 in rw (p.1, p.2) (λ n d s k. offence.in_left_side (equal-top _ _ _ _ _ c.in-Equal.is) (rw c.get-in-Equal.ensures at (c.in_err-t-in-Equal.ensures.refusal n d s k)))

pub term-term-requires-in-Equal : goal.term-term-requires-in-Equal
term-term-requires-in-Equal t c = (search rules, place-next c.term.ensures.grows c.in_ok-t-in-Equal.ensures.scope c.requires)

pub term-returns-in_err-u-in-Equal-clause-refusal : goal.term-returns-in_err-u-in-Equal-clause-refusal
term-returns-in_err-u-in-Equal-clause-refusal t c = let p = err_from_is_err_and c.from_residual-in_err-u-in-Equal.result c.from_residual-in_err-u-in-Equal.ensures.1 in rw (p.1, p.2) (λ n d s k. let f = rw c.get-in-Equal.ensures at (c.in_ok-t-in-Equal.ensures.value d s k) in offence.in_right_side (equal-top _ _ _ _ _ c.in-Equal.is) f.means (rw c.get-in-Equal-2.ensures at (c.in_err-u-in-Equal.ensures.refusal n d s (around-next c.term.ensures.grows c.in_ok-t-in-Equal.ensures.scope k))))

pub term-returns-in_err-u-in-Equal-clause-grows : goal.term-returns-in_err-u-in-Equal-clause-grows
term-returns-in_err-u-in-Equal-clause-grows t c = extends-trans c.term.ensures.grows c.term-in-Equal.ensures.grows

pub term-returns-in_err-whole-in-Equal-clause-refusal : goal.term-returns-in_err-whole-in-Equal-clause-refusal
term-returns-in_err-whole-in-Equal-clause-refusal t c = let p = err_from_is_err_and c.from_residual-in_err-whole-in-Equal.result c.from_residual-in_err-whole-in-Equal.ensures.1 in rw (p.1, p.2) (λ n d s k. let f = rw c.get-in-Equal.ensures at (c.in_ok-t-in-Equal.ensures.value d s k) in let g = rw c.get-in-Equal-2.ensures at (c.in_ok-u-in-Equal.ensures.value d s (around-next c.term.ensures.grows c.in_ok-t-in-Equal.ensures.scope k)) in let h = stands-kept c.term-in-Equal.ensures.grows f.stands in rw (c.in_err-whole-in-Equal.ensures.byte n) (offence.sides_differ (equal-top _ _ _ _ _ c.in-Equal.is) f.means g.means (λ e. c.in_err-whole-in-Equal.ensures.differ n (h.typed ∙ e ∙ sym g.stands.typed))))

pub term-returns-in_err-whole-in-Equal-clause-grows : goal.term-returns-in_err-whole-in-Equal-clause-grows
term-returns-in_err-whole-in-Equal-clause-grows t c = extends-trans (extends-trans c.term.ensures.grows c.term-in-Equal.ensures.grows) c.equated.ensures.grows

pub term-returns-in_ok-whole-in-Equal-clause-value : goal.term-returns-in_ok-whole-in-Equal-clause-value
term-returns-in_ok-whole-in-Equal-clause-value t c = λ d s k. let f = rw c.get-in-Equal.ensures at (c.in_ok-t-in-Equal.ensures.value d s k) in let g = rw c.get-in-Equal-2.ensures at (c.in_ok-u-in-Equal.ensures.value d s (around-next c.term.ensures.grows c.in_ok-t-in-Equal.ensures.scope k)) in let w = c.in_ok-whole-in-Equal.ensures.made (types_in s) f.term g.term f.type g.type (stands-kept c.term-in-Equal.ensures.grows f.stands) g.stands in record { term = sign.equated c.in-Equal.mark f.type f.term g.term; type = truth; means = meaning.equating (equal-top _ _ _ _ _ c.in-Equal.is) f.means (rw w.0 g.means); stands = w.1 }

pub term-returns-in_ok-whole-in-Equal-clause-grows : goal.term-returns-in_ok-whole-in-Equal-clause-grows
term-returns-in_ok-whole-in-Equal-clause-grows t c = extends-trans (extends-trans c.term.ensures.grows c.term-in-Equal.ensures.grows) c.equated.ensures.grows

pub term-returns-in_ok-t-in-Atom-clause-value : goal.term-returns-in_ok-t-in-Atom-clause-value
term-returns-in_ok-t-in-Atom-clause-value t c = λ d s k. c.in_ok-t-in-Atom.ensures.value d s (rw c.as_slice.ensures.value k)

pub term-returns-in_ok-t-in-Var-clause-value : goal.term-returns-in_ok-t-in-Var-clause-value
term-returns-in_ok-t-in-Var-clause-value t c = λ d s k. c.in_ok-t-in-Var.ensures.value d s (rw c.as_slice-in-Var.ensures.value k)

pub term-returns-in_ok-t-in-True-clause-value : goal.term-returns-in_ok-t-in-True-clause-value
term-returns-in_ok-t-in-True-clause-value t c = λ d s k. record { term = true_term; type = truth; means = meaning.true_sign (true-top _ c.in-True.is); stands = c.in_ok-t-in-True.ensures.made (types_in s) }

pub term-returns-in_ok-t-in-False-clause-value : goal.term-returns-in_ok-t-in-False-clause-value
term-returns-in_ok-t-in-False-clause-value t c = λ d s k. record { term = false_term; type = truth; means = meaning.false_sign (false-top _ c.in-False.is); stands = c.in_ok-t-in-False.ensures.made (types_in s) }

pub term-returns-in_ok-t-in-Negation-clause-value : goal.term-returns-in_ok-t-in-Negation-clause-value
term-returns-in_ok-t-in-Negation-clause-value t c = λ d s k. record { term = sign.negation_function (length s); type = arrow truth truth; means = meaning.negation_sign (negation-top _ c.in-Negation.is); stands = rw (types-length s) at (c.in_ok-t-in-Negation.ensures.made (types_in s)) }

pub term-returns-in_ok-t-in-Connective-clause-value : goal.term-returns-in_ok-t-in-Connective-clause-value
term-returns-in_ok-t-in-Connective-clause-value t c = λ d s k. record { term = sign.connective_function (length s) c.in-Connective.connective; type = arrow truth (arrow truth truth); means = meaning.connective_sign (connective-top _ _ c.in-Connective.is); stands = rw (types-length s) at (c.in_ok-t-in-Connective.ensures.made (types_in s)) }

pub term-returns-in-Pi-clause-refusal : goal.term-returns-in-Pi-clause-refusal
term-returns-in-Pi-clause-refusal t c = λ n d s k. offence.no_argument (alone-pi c.args.tree.now (pi-top _ c.in-Pi.is))

pub term-returns-in-Pi-clause-grows : goal.term-returns-in-Pi-clause-grows
term-returns-in-Pi-clause-grows t c = extends-itself c.is_sound.ensures.sound

pub term-returns-in-Sigma-clause-refusal : goal.term-returns-in-Sigma-clause-refusal
term-returns-in-Sigma-clause-refusal t c = λ n d s k. offence.no_argument (alone-sigma c.args.tree.now (sigma-top _ c.in-Sigma.is))

pub term-returns-in-Sigma-clause-grows : goal.term-returns-in-Sigma-clause-grows
term-returns-in-Sigma-clause-grows t c = extends-itself c.is_sound.ensures.sound

pub term-returns-in-Choice-clause-refusal : goal.term-returns-in-Choice-clause-refusal
term-returns-in-Choice-clause-refusal t c = λ n d s k. offence.no_argument (alone-choice c.args.tree.now (choice-top _ c.in-Choice.is))

pub term-returns-in-Choice-clause-grows : goal.term-returns-in-Choice-clause-grows
term-returns-in-Choice-clause-grows t c = extends-itself c.is_sound.ensures.sound
