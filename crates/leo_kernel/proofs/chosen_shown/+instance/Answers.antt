use Rattle.std.proofs.Common.{map, refl, sym, ◌∙◌, arith}
use Rattle.leo_terms.specs.Contents.{tree_at, type_at}
use Rattle.leo_terms.proofs.CallerLemmas.{extends-itself, extends-trans, tree-kept, reads-var, reads-bound, reads-sym, reads-app, reads-lam, reads-logic}
use Rattle.leo_kernel.proofs.ChosenShowing.{shown-itself, shows-nothing, shows-no_variable, shows-less, shows-untyped, shows-extended, other-term, same-term}
use Rattle.leo_kernel.proofs.chosen_shown.+instance.Goals as goal

pub returns-in_default-clause-grows : goal.returns-in_default-clause-grows
returns-in_default-clause-grows m c = extends-itself c.is_sound.ensures.sound

pub returns-then-eq-clause-value : goal.returns-then-eq-clause-value
returns-then-eq-clause-value m c = shown-itself c.args.bank.now (map (type_at c.args.bank.now) c.args.vars.now) (tree_at c.args.bank.now c.args.s) (tree_at c.args.bank.now c.args.t) (tree_at c.args.bank.now c.args.w) c.args.t c.requires.term refl (same-term c.args.bank.now c.is_sound.ensures.sound c.args.w c.args.s c.requires.within c.requires.symbol c.eq.result c.eq.ensures c.if-eq.true)

pub returns-then-eq-clause-grows : goal.returns-then-eq-clause-grows
returns-then-eq-clause-grows m c = extends-itself c.is_sound.ensures.sound

pub returns-then-not-is_variable-clause-value : goal.returns-then-not-is_variable-clause-value
returns-then-not-is_variable-clause-value m c =
    shows-no_variable c.args.bank.now (map (type_at c.args.bank.now) c.args.vars.now) (tree_at c.args.bank.now c.args.s) (tree_at c.args.bank.now c.args.t) (tree_at c.args.bank.now c.args.w) (tree_at c.args.bank.now c.in-App.f) (tree_at c.args.bank.now c.in-App.x)
    (reads-app c.is_sound.ensures.sound c.args.w c.in-App.f c.in-App.x c.in-App.ensures.view)
    (other-term c.args.bank.now c.is_sound.ensures.sound c.args.w c.args.s c.requires.within c.requires.symbol c.eq.result c.eq.ensures c.if-eq.false)
    c.is_variable.result c.is_variable.ensures c.if-not-is_variable.true

pub returns-then-not-is_variable-clause-grows : goal.returns-then-not-is_variable-clause-grows
returns-then-not-is_variable-clause-grows m c = extends-itself c.is_sound.ensures.sound

pub returns-in_err-extended-in-Term-clause-grows : goal.returns-in_err-extended-in-Term-clause-grows
returns-in_err-extended-in-Term-clause-grows m c = extends-trans c.instance.ensures.grows c.with_argument.ensures.grows

pub returns-in_ok-extended-in-Term-clause-value : goal.returns-in_ok-extended-in-Term-clause-value
returns-in_ok-extended-in-Term-clause-value m c =
    let v = c.in-App.ensures.typed in
    let p = v.argument_below in
    let q = c.requires.within in
    let k = tree-kept c.instance.ensures.grows c.in-App.x (omega arith) in
    shows-extended c.with_argument.new.bank (map (type_at c.args.bank.now) c.args.vars.now) (tree_at c.args.bank.now c.args.s) (tree_at c.args.bank.now c.args.t) (tree_at c.args.bank.now c.args.w) (tree_at c.args.bank.now c.in-App.f) (tree_at c.args.bank.now c.in-App.x)
    (reads-app c.is_sound.ensures.sound c.args.w c.in-App.f c.in-App.x c.in-App.ensures.view)
    (other-term c.args.bank.now c.is_sound.ensures.sound c.args.w c.args.s c.requires.within c.requires.symbol c.eq.result c.eq.ensures c.if-eq.false)
    (c.is_variable.ensures.0 c.if-not-is_variable.false)
    c.instance.new.bank c.in-Term.u (rw c.in-Term.is at c.in_ok-before-in-App.ensures.value) c.in_ok-extended-in-Term.extended (rw k at c.in_ok-extended-in-Term.ensures.value)

pub returns-in_ok-extended-in-Term-clause-grows : goal.returns-in_ok-extended-in-Term-clause-grows
returns-in_ok-extended-in-Term-clause-grows m c = extends-trans c.instance.ensures.grows c.with_argument.ensures.grows

pub returns-in-Untyped-clause-value : goal.returns-in-Untyped-clause-value
returns-in-Untyped-clause-value m c =
    shows-untyped c.instance.new.bank (map (type_at c.args.bank.now) c.args.vars.now) (tree_at c.args.bank.now c.args.s) (tree_at c.args.bank.now c.args.t) (tree_at c.args.bank.now c.args.w) (tree_at c.args.bank.now c.in-App.f) (tree_at c.args.bank.now c.in-App.x)
    (reads-app c.is_sound.ensures.sound c.args.w c.in-App.f c.in-App.x c.in-App.ensures.view)
    (other-term c.args.bank.now c.is_sound.ensures.sound c.args.w c.args.s c.requires.within c.requires.symbol c.eq.result c.eq.ensures c.if-eq.false)
    (c.is_variable.ensures.0 c.if-not-is_variable.false)
    (rw c.in-Untyped.is at c.in_ok-before-in-App.ensures.value)

pub returns-in-Nothing-clause-value : goal.returns-in-Nothing-clause-value
returns-in-Nothing-clause-value m c =
    shows-less c.instance.new.bank (map (type_at c.args.bank.now) c.args.vars.now) (tree_at c.args.bank.now c.args.s) (tree_at c.args.bank.now c.args.t) (tree_at c.args.bank.now c.args.w) (tree_at c.args.bank.now c.in-App.f) (tree_at c.args.bank.now c.in-App.x)
    (reads-app c.is_sound.ensures.sound c.args.w c.in-App.f c.in-App.x c.in-App.ensures.view)
    (other-term c.args.bank.now c.is_sound.ensures.sound c.args.w c.args.s c.requires.within c.requires.symbol c.eq.result c.eq.ensures c.if-eq.false)
    (rw c.in-Nothing.is at c.in_ok-before-in-App.ensures.value)

pub returns-in-Var-clause-value : goal.returns-in-Var-clause-value
returns-in-Var-clause-value m c =
    shows-nothing c.args.bank.now (map (type_at c.args.bank.now) c.args.vars.now) (tree_at c.args.bank.now c.args.s) (tree_at c.args.bank.now c.args.t) (tree_at c.args.bank.now c.args.w)
    (other-term c.args.bank.now c.is_sound.ensures.sound c.args.w c.args.s c.requires.within c.requires.symbol c.eq.result c.eq.ensures c.if-eq.false)
    (λ f x e v. (let h = sym (reads-var c.is_sound.ensures.sound c.args.w _ c.in-Var.ensures.view) ∙ e in let k : ⊥ = cc in k))

pub returns-in-Var-clause-grows : goal.returns-in-Var-clause-grows
returns-in-Var-clause-grows m c = extends-itself c.is_sound.ensures.sound

pub returns-in-Bound-clause-value : goal.returns-in-Bound-clause-value
returns-in-Bound-clause-value m c =
    shows-nothing c.args.bank.now (map (type_at c.args.bank.now) c.args.vars.now) (tree_at c.args.bank.now c.args.s) (tree_at c.args.bank.now c.args.t) (tree_at c.args.bank.now c.args.w)
    (other-term c.args.bank.now c.is_sound.ensures.sound c.args.w c.args.s c.requires.within c.requires.symbol c.eq.result c.eq.ensures c.if-eq.false)
    (λ f x e v. (let h = sym (reads-bound c.is_sound.ensures.sound c.args.w _ c.in-Bound.ensures.view) ∙ e in let k : ⊥ = cc in k))

pub returns-in-Bound-clause-grows : goal.returns-in-Bound-clause-grows
returns-in-Bound-clause-grows m c = extends-itself c.is_sound.ensures.sound

pub returns-in-Sym-clause-value : goal.returns-in-Sym-clause-value
returns-in-Sym-clause-value m c =
    shows-nothing c.args.bank.now (map (type_at c.args.bank.now) c.args.vars.now) (tree_at c.args.bank.now c.args.s) (tree_at c.args.bank.now c.args.t) (tree_at c.args.bank.now c.args.w)
    (other-term c.args.bank.now c.is_sound.ensures.sound c.args.w c.args.s c.requires.within c.requires.symbol c.eq.result c.eq.ensures c.if-eq.false)
    (λ f x e v. (let h = sym (reads-sym c.is_sound.ensures.sound c.args.w _ c.in-Sym.ensures.view) ∙ e in let k : ⊥ = cc in k))

pub returns-in-Sym-clause-grows : goal.returns-in-Sym-clause-grows
returns-in-Sym-clause-grows m c = extends-itself c.is_sound.ensures.sound

pub returns-in-Lam-clause-value : goal.returns-in-Lam-clause-value
returns-in-Lam-clause-value m c =
    shows-nothing c.args.bank.now (map (type_at c.args.bank.now) c.args.vars.now) (tree_at c.args.bank.now c.args.s) (tree_at c.args.bank.now c.args.t) (tree_at c.args.bank.now c.args.w)
    (other-term c.args.bank.now c.is_sound.ensures.sound c.args.w c.args.s c.requires.within c.requires.symbol c.eq.result c.eq.ensures c.if-eq.false)
    (λ f x e v. (let h = sym (reads-lam c.is_sound.ensures.sound c.args.w _ _ c.in-Lam.ensures.view) ∙ e in let k : ⊥ = cc in k))

pub returns-in-Lam-clause-grows : goal.returns-in-Lam-clause-grows
returns-in-Lam-clause-grows m c = extends-itself c.is_sound.ensures.sound

pub returns-in-Logic-clause-value : goal.returns-in-Logic-clause-value
returns-in-Logic-clause-value m c =
    shows-nothing c.args.bank.now (map (type_at c.args.bank.now) c.args.vars.now) (tree_at c.args.bank.now c.args.s) (tree_at c.args.bank.now c.args.t) (tree_at c.args.bank.now c.args.w)
    (other-term c.args.bank.now c.is_sound.ensures.sound c.args.w c.args.s c.requires.within c.requires.symbol c.eq.result c.eq.ensures c.if-eq.false)
    (λ f x e v. (let h = sym (reads-logic c.is_sound.ensures.sound c.args.w _ _ _ c.in-Logic.ensures.view) ∙ e in let k : ⊥ = cc in k))

pub returns-in-Logic-clause-grows : goal.returns-in-Logic-clause-grows
returns-in-Logic-clause-grows m c = extends-itself c.is_sound.ensures.sound
