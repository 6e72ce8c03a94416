use Rattle.std.proofs.Common.{refl}
use Rattle.leo_terms.proofs.CallerLemmas.{reads-var, reads-bound, reads-sym, reads-app, reads-lam, reads-logic}
use Rattle.leo_unify.proofs.spine.function_of.Goals as goal

pub returns-in-Var-clause-none : goal.returns-in-Var-clause-none
returns-in-Var-clause-none c = rw (reads-var c.in-Var.ensures.sound c.args.t _ c.in-Var.ensures.view) refl

pub returns-in-Bound-clause-none : goal.returns-in-Bound-clause-none
returns-in-Bound-clause-none c = rw (reads-bound c.in-Bound.ensures.sound c.args.t _ c.in-Bound.ensures.view) refl

pub returns-in-Sym-clause-none : goal.returns-in-Sym-clause-none
returns-in-Sym-clause-none c = rw (reads-sym c.in-Sym.ensures.sound c.args.t _ c.in-Sym.ensures.view) refl

pub returns-in-App-clause-value : goal.returns-in-App-clause-value
returns-in-App-clause-value c = rw (reads-app c.in-App.ensures.sound c.args.t _ _ c.in-App.ensures.view) refl

pub returns-in-Lam-clause-none : goal.returns-in-Lam-clause-none
returns-in-Lam-clause-none c = rw (reads-lam c.in-Lam.ensures.sound c.args.t _ _ c.in-Lam.ensures.view) refl

pub returns-in-Logic-clause-none : goal.returns-in-Logic-clause-none
returns-in-Logic-clause-none c = rw (reads-logic c.in-Logic.ensures.sound c.args.t _ _ _ c.in-Logic.ensures.view) refl
