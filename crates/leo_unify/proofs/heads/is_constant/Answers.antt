use Rattle.std.proofs.Common.{refl}
use Rattle.leo_terms.proofs.CallerLemmas.{reads-var, reads-bound, reads-sym, reads-app, reads-lam, reads-logic}
use Rattle.leo_unify.proofs.heads.is_constant.Goals as goal

pub returns-in-Var : goal.returns-in-Var
returns-in-Var c = rw (reads-var c.in-Var.ensures.sound c.args.t _ c.in-Var.ensures.view) refl

pub returns-in-Bound : goal.returns-in-Bound
returns-in-Bound c = rw (reads-bound c.in-Bound.ensures.sound c.args.t _ c.in-Bound.ensures.view) refl

pub returns-in-Sym : goal.returns-in-Sym
returns-in-Sym c = rw (reads-sym c.in-Sym.ensures.sound c.args.t _ c.in-Sym.ensures.view) refl

pub returns-in-App : goal.returns-in-App
returns-in-App c = rw (reads-app c.in-App.ensures.sound c.args.t _ _ c.in-App.ensures.view) refl

pub returns-in-Lam : goal.returns-in-Lam
returns-in-Lam c = rw (reads-lam c.in-Lam.ensures.sound c.args.t _ _ c.in-Lam.ensures.view) refl

pub returns-in-Logic : goal.returns-in-Logic
returns-in-Logic c = rw (reads-logic c.in-Logic.ensures.sound c.args.t _ _ _ c.in-Logic.ensures.view) refl
