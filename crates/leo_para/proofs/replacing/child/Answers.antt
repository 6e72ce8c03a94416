use Rattle.std.proofs.Common.{refl}
use Rattle.leo_terms.proofs.CallerLemmas.{reads-var, reads-bound, reads-sym, reads-app, reads-lam, reads-logic}
use Rattle.leo_kernel.proofs.Paths.{app-child, logic-child, argument-within}
use Rattle.leo_para.proofs.replacing.child.Goals as goal

pub returns-in-Var-clause-value : goal.returns-in-Var-clause-value
returns-in-Var-clause-value c = rw (reads-var c.in-Var.ensures.sound c.args.t _ c.in-Var.ensures.view) refl

pub returns-in-Bound-clause-value : goal.returns-in-Bound-clause-value
returns-in-Bound-clause-value c = rw (reads-bound c.in-Bound.ensures.sound c.args.t _ c.in-Bound.ensures.view) refl

pub returns-in-Sym-clause-value : goal.returns-in-Sym-clause-value
returns-in-Sym-clause-value c = rw (reads-sym c.in-Sym.ensures.sound c.args.t _ c.in-Sym.ensures.view) refl

pub returns-in-App-clause-value : goal.returns-in-App-clause-value
returns-in-App-clause-value c = rw (reads-app c.in-App.ensures.sound c.args.t _ _ c.in-App.ensures.view) (rw c.app_child.ensures (app-child c.args.bank.now c.in-App.ensures.sound c.in-App.f c.in-App.a c.args.number))

pub returns-in-Lam-clause-value : goal.returns-in-Lam-clause-value
returns-in-Lam-clause-value c = rw (reads-lam c.in-Lam.ensures.sound c.args.t _ _ c.in-Lam.ensures.view) refl

pub returns-in-Logic-clause-value : goal.returns-in-Logic-clause-value
returns-in-Logic-clause-value c = rw (reads-logic c.in-Logic.ensures.sound c.args.t _ _ _ c.in-Logic.ensures.view) (rw c.logic_child.ensures (logic-child c.args.bank.now c.in-Logic.ensures.sound _ c.in-Logic.x c.in-Logic.y c.args.number (argument-within c.args.t _ c.in-Logic.x c.in-Logic.ensures.typed.first_below c.requires) (argument-within c.args.t _ c.in-Logic.y c.in-Logic.ensures.typed.second_below c.requires)))
