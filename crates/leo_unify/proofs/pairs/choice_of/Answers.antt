use Rattle.std.proofs.Common.{refl}
use Rattle.leo_terms.proofs.CallerLemmas.{reads-var, reads-bound, reads-sym, reads-app, reads-lam, reads-logic}
use Rattle.leo_unify.proofs.pairs.choice_of.Goals as goal

pub returns-in-Var-clause-value : goal.returns-in-Var-clause-value
returns-in-Var-clause-value c = rw (reads-var c.in-Var.ensures.sound c.args.t _ c.in-Var.ensures.view) refl

pub returns-in-Bound-clause-value : goal.returns-in-Bound-clause-value
returns-in-Bound-clause-value c = rw (reads-bound c.in-Bound.ensures.sound c.args.t _ c.in-Bound.ensures.view) refl

pub returns-in-Sym-clause-value : goal.returns-in-Sym-clause-value
returns-in-Sym-clause-value c = rw (reads-sym c.in-Sym.ensures.sound c.args.t _ c.in-Sym.ensures.view) refl

pub returns-in-App-clause-value : goal.returns-in-App-clause-value
returns-in-App-clause-value c = rw (reads-app c.in-App.ensures.sound c.args.t _ _ c.in-App.ensures.view) refl

pub returns-in-Lam-clause-value : goal.returns-in-Lam-clause-value
returns-in-Lam-clause-value c = rw (reads-lam c.in-Lam.ensures.sound c.args.t _ _ c.in-Lam.ensures.view) refl

pub returns-in-Some-x-clause-value : goal.returns-in-Some-x-clause-value
returns-in-Some-x-clause-value c = rw (reads-logic c.in-Logic.ensures.sound c.args.t _ _ _ c.in-Logic.ensures.view, c.in-Eps.is, c.in-Some-x.is) refl

pub returns-in-True-clause-value : goal.returns-in-True-clause-value
returns-in-True-clause-value c = rw (reads-logic c.in-Logic.ensures.sound c.args.t _ _ _ c.in-Logic.ensures.view, c.in-True.is) refl

pub returns-in-False-clause-value : goal.returns-in-False-clause-value
returns-in-False-clause-value c = rw (reads-logic c.in-Logic.ensures.sound c.args.t _ _ _ c.in-Logic.ensures.view, c.in-False.is) refl

pub returns-in-Not-clause-value : goal.returns-in-Not-clause-value
returns-in-Not-clause-value c = rw (reads-logic c.in-Logic.ensures.sound c.args.t _ _ _ c.in-Logic.ensures.view, c.in-Not.is) refl

pub returns-in-Or-clause-value : goal.returns-in-Or-clause-value
returns-in-Or-clause-value c = rw (reads-logic c.in-Logic.ensures.sound c.args.t _ _ _ c.in-Logic.ensures.view, c.in-Or.is) refl

pub returns-in-And-clause-value : goal.returns-in-And-clause-value
returns-in-And-clause-value c = rw (reads-logic c.in-Logic.ensures.sound c.args.t _ _ _ c.in-Logic.ensures.view, c.in-And.is) refl

pub returns-in-Imp-clause-value : goal.returns-in-Imp-clause-value
returns-in-Imp-clause-value c = rw (reads-logic c.in-Logic.ensures.sound c.args.t _ _ _ c.in-Logic.ensures.view, c.in-Imp.is) refl

pub returns-in-Eq-clause-value : goal.returns-in-Eq-clause-value
returns-in-Eq-clause-value c = rw (reads-logic c.in-Logic.ensures.sound c.args.t _ _ _ c.in-Logic.ensures.view, c.in-Eq.is) refl

pub returns-in-All-clause-value : goal.returns-in-All-clause-value
returns-in-All-clause-value c = rw (reads-logic c.in-Logic.ensures.sound c.args.t _ _ _ c.in-Logic.ensures.view, c.in-All.is) refl

pub returns-in-Some-clause-value : goal.returns-in-Some-clause-value
returns-in-Some-clause-value c = rw (reads-logic c.in-Logic.ensures.sound c.args.t _ _ _ c.in-Logic.ensures.view, c.in-Some.is) refl
