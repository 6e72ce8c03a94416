use Rattle.std.proofs.Common.{sym, ◌∙◌, arith}
use Rattle.leo_terms.proofs.CallerLemmas.{reads-var, reads-bound, reads-sym, reads-lam, reads-logic}
use Rattle.leo_kernel.proofs.ChosenShowing.{argument-other, argument-there}
use Rattle.leo_kernel.proofs.chosen_shown.argument_of.Goals as goal

pub returns-then-eq : goal.returns-then-eq
returns-then-eq c =
    let v = c.in-App.ensures.typed in
    let p = v.function_below in
    let q = v.argument_below in
    let t = c.requires.within in
    (omega arith, argument-there c.args.bank.now c.in-App.ensures.sound c.args.t c.args.f c.in-App.g c.in-App.w (omega arith) c.requires.function c.in-App.ensures.view c.eq.result c.eq.ensures c.if-eq.true)

pub returns-else-eq : goal.returns-else-eq
returns-else-eq c =
    let p = c.in-App.ensures.typed.function_below in
    let t = c.requires.within in
    λ w. argument-other c.args.bank.now c.in-App.ensures.sound c.args.t c.args.f c.in-App.g c.in-App.w (omega arith) c.requires.function c.in-App.ensures.view c.eq.result c.eq.ensures c.if-eq.false w

pub returns-in-Var : goal.returns-in-Var
returns-in-Var c = λ w e. (let h = sym (reads-var c.in-Var.ensures.sound c.args.t _ c.in-Var.ensures.view) ∙ e in let f : ⊥ = cc in f)

pub returns-in-Bound : goal.returns-in-Bound
returns-in-Bound c = λ w e. (let h = sym (reads-bound c.in-Bound.ensures.sound c.args.t _ c.in-Bound.ensures.view) ∙ e in let f : ⊥ = cc in f)

pub returns-in-Sym : goal.returns-in-Sym
returns-in-Sym c = λ w e. (let h = sym (reads-sym c.in-Sym.ensures.sound c.args.t _ c.in-Sym.ensures.view) ∙ e in let f : ⊥ = cc in f)

pub returns-in-Lam : goal.returns-in-Lam
returns-in-Lam c = λ w e. (let h = sym (reads-lam c.in-Lam.ensures.sound c.args.t _ _ c.in-Lam.ensures.view) ∙ e in let f : ⊥ = cc in f)

pub returns-in-Logic : goal.returns-in-Logic
returns-in-Logic c = λ w e. (let h = sym (reads-logic c.in-Logic.ensures.sound c.args.t _ _ _ c.in-Logic.ensures.view) ∙ e in let f : ⊥ = cc in f)
