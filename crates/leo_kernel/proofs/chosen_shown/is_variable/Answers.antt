use Rattle.leo_terms.proofs.CallerLemmas.{reads-bound, reads-sym, reads-app, reads-lam, reads-logic}
use Rattle.leo_kernel.proofs.TypedLits.{no}
use Rattle.leo_kernel.proofs.ChosenShowing.{variable-past, variable-there}
use Rattle.leo_kernel.proofs.chosen_shown.is_variable.Goals as goal

pub returns-then-number-vars : goal.returns-then-number-vars
returns-then-number-vars c = variable-past c.args.bank.now c.in-Var.ensures.sound c.args.vars.now c.args.t c.in-Var.number c.in-Var.ensures.view c.if-number-vars.true

pub returns-else-number-vars : goal.returns-else-number-vars
returns-else-number-vars c = variable-there c.args.bank.now c.in-Var.ensures.sound c.args.vars.now c.requires.vars c.args.t c.in-Var.number c.index-vars-number.result c.type_of-ty.result c.requires.within c.in-Var.ensures.view c.if-number-vars.false c.index-vars-number.is c.type_of-ty.ensures.number c.eq.result c.eq.ensures

pub returns-in-Bound : goal.returns-in-Bound
returns-in-Bound c = rw (reads-bound c.in-Bound.ensures.sound c.args.t _ c.in-Bound.ensures.view) (no (λ h. h))

pub returns-in-Sym : goal.returns-in-Sym
returns-in-Sym c = rw (reads-sym c.in-Sym.ensures.sound c.args.t _ c.in-Sym.ensures.view) (no (λ h. h))

pub returns-in-App : goal.returns-in-App
returns-in-App c = rw (reads-app c.in-App.ensures.sound c.args.t _ _ c.in-App.ensures.view) (no (λ h. h))

pub returns-in-Lam : goal.returns-in-Lam
returns-in-Lam c = rw (reads-lam c.in-Lam.ensures.sound c.args.t _ _ c.in-Lam.ensures.view) (no (λ h. h))

pub returns-in-Logic : goal.returns-in-Logic
returns-in-Logic c = rw (reads-logic c.in-Logic.ensures.sound c.args.t _ _ _ c.in-Logic.ensures.view) (no (λ h. h))
