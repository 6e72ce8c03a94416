use Rattle.leo_terms.proofs.CallerLemmas.{reads-var, reads-bound, reads-sym, reads-app, reads-lam, reads-logic}
use Rattle.leo_kernel.proofs.PlainRules.{terms-decide}
use Rattle.leo_kernel.proofs.replacing.has_child.Goals as goal

pub returns-in-Var : goal.returns-in-Var
returns-in-Var c =
    let e = reads-var c.in-Var.ensures.sound c.args.t _ c.in-Var.ensures.view in
    rw e (rw e at (terms-decide c.args.bank.now c.in-Var.ensures.sound c.args.new c.args.t c.requires.new c.requires.within c.eq.result c.eq.ensures))

pub returns-in-Bound : goal.returns-in-Bound
returns-in-Bound c =
    let e = reads-bound c.in-Bound.ensures.sound c.args.t _ c.in-Bound.ensures.view in
    rw e (rw e at (terms-decide c.args.bank.now c.in-Bound.ensures.sound c.args.new c.args.t c.requires.new c.requires.within c.eq-in-Bound.result c.eq-in-Bound.ensures))

pub returns-in-Sym : goal.returns-in-Sym
returns-in-Sym c =
    let e = reads-sym c.in-Sym.ensures.sound c.args.t _ c.in-Sym.ensures.view in
    rw e (rw e at (terms-decide c.args.bank.now c.in-Sym.ensures.sound c.args.new c.args.t c.requires.new c.requires.within c.eq-in-Sym.result c.eq-in-Sym.ensures))

pub returns-in-Lam : goal.returns-in-Lam
returns-in-Lam c =
    let e = reads-lam c.in-Lam.ensures.sound c.args.t _ _ c.in-Lam.ensures.view in
    rw e (rw e at (terms-decide c.args.bank.now c.in-Lam.ensures.sound c.args.new c.args.t c.requires.new c.requires.within c.eq-in-Lam.result c.eq-in-Lam.ensures))

pub returns-in-App : goal.returns-in-App
returns-in-App c = rw (reads-app c.in-App.ensures.sound c.args.t _ _ c.in-App.ensures.view) c.app_has_child.ensures

pub returns-in-Logic : goal.returns-in-Logic
returns-in-Logic c = rw (reads-logic c.in-Logic.ensures.sound c.args.t _ _ _ c.in-Logic.ensures.view) c.logic_has_child.ensures
