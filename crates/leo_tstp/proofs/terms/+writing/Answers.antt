use Rattle.std.proofs.Common.{arith, rules}
use Rattle.leo_terms.proofs.CallerLemmas.{reads-var, reads-sym, reads-bound, reads-app, reads-lam, reads-logic, arrow-parts}
use Rattle.leo_tstp.proofs.terms.+writing.Goals as goal

pub write_signed-write_binder-requires : goal.write_signed-write_binder-requires
write_signed-write_binder-requires m c =
    let p = arrow-parts c.in-Lam.ensures.sound c.in-Lam.ensures.typed.typed in
    (search rules, (omega arith, omega (arith, c.in-Lam.ensures.typed.body_below)))

pub write_signed-returns-in-Var : goal.write_signed-returns-in-Var
write_signed-returns-in-Var m c = rw (reads-var c.in-Var.ensures.sound c.args.t _ c.in-Var.ensures.view, ← c.from.ensures) c.write_variable.ensures

pub write_signed-returns-in-Bound : goal.write_signed-returns-in-Bound
write_signed-returns-in-Bound m c = rw (reads-bound c.in-Bound.ensures.sound c.args.t _ c.in-Bound.ensures.view, ← c.lambdas_around.ensures) c.write_bound.ensures

pub write_signed-returns-in-Sym : goal.write_signed-returns-in-Sym
write_signed-returns-in-Sym m c = rw (reads-sym c.in-Sym.ensures.sound c.args.t _ c.in-Sym.ensures.view) c.write_symbol.ensures

pub write_signed-returns-in-App : goal.write_signed-returns-in-App
write_signed-returns-in-App m c = rw (reads-app c.in-App.ensures.sound c.args.t _ _ c.in-App.ensures.view) c.write_infix.ensures

pub write_signed-returns-in-Lam : goal.write_signed-returns-in-Lam
write_signed-returns-in-Lam m c = rw (reads-lam c.in-Lam.ensures.sound c.args.t _ _ c.in-Lam.ensures.view) c.write_binder.ensures

pub write_signed-returns-in-Logic : goal.write_signed-returns-in-Logic
write_signed-returns-in-Logic m c = rw (reads-logic c.in-Logic.ensures.sound c.args.t _ _ _ c.in-Logic.ensures.view) c.write_logic.ensures
