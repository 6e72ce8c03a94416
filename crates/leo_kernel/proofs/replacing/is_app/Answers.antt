use Rattle.std.proofs.Common.{arith}
use Rattle.leo_terms.proofs.CallerLemmas.{reads-var, reads-bound, reads-sym, reads-app, reads-lam, reads-logic}
use Rattle.leo_kernel.proofs.TopTests.{no_app, app-differs, app-decides}
use Rattle.leo_kernel.proofs.replacing.is_app.Goals as goal

pub returns-in-Var : goal.returns-in-Var
returns-in-Var c = rw (reads-var c.in-Var.ensures.sound c.args.t _ c.in-Var.ensures.view) (no_app _ _ _ tt)

pub returns-in-Bound : goal.returns-in-Bound
returns-in-Bound c = rw (reads-bound c.in-Bound.ensures.sound c.args.t _ c.in-Bound.ensures.view) (no_app _ _ _ tt)

pub returns-in-Sym : goal.returns-in-Sym
returns-in-Sym c = rw (reads-sym c.in-Sym.ensures.sound c.args.t _ c.in-Sym.ensures.view) (no_app _ _ _ tt)

pub returns-in-Lam : goal.returns-in-Lam
returns-in-Lam c = rw (reads-lam c.in-Lam.ensures.sound c.args.t _ _ c.in-Lam.ensures.view) (no_app _ _ _ tt)

pub returns-in-Logic : goal.returns-in-Logic
returns-in-Logic c = rw (reads-logic c.in-Logic.ensures.sound c.args.t _ _ _ c.in-Logic.ensures.view) (no_app _ _ _ tt)

pub returns-then-eq : goal.returns-then-eq
returns-then-eq c =
    let v = c.in-App.ensures.typed in
    let g = v.function_below in
    let y = v.argument_below in
    let t = c.requires.within in
    rw (reads-app c.in-App.ensures.sound c.args.t _ _ c.in-App.ensures.view) (app-decides c.args.bank.now c.in-App.ensures.sound c.in-App.g c.in-App.y c.args.f c.args.x (omega arith) c.requires.function (omega arith) c.requires.argument c.eq.result c.eq-then-eq.result c.eq.ensures c.if-eq.true c.eq-then-eq.ensures)

pub returns-else-eq : goal.returns-else-eq
returns-else-eq c =
    let v = c.in-App.ensures.typed in
    let g = v.function_below in
    let t = c.requires.within in
    rw (reads-app c.in-App.ensures.sound c.args.t _ _ c.in-App.ensures.view) (app-differs c.args.bank.now c.in-App.ensures.sound c.in-App.g c.in-App.y c.args.f c.args.x (omega arith) c.requires.function c.eq.result c.eq.ensures c.if-eq.false)
