use Rattle.std.proofs.Common.{refl}
use Rattle.leo_terms.proofs.CallerLemmas.{reads-bound, reads-sym, reads-app, reads-lam, reads-logic}
use Rattle.leo_ext.proofs.BoundMembers.{is-variable, no-variable}
use Rattle.leo_ext.proofs.primitive.variable_at.Goals as goal

pub returns-in-Var : goal.returns-in-Var
returns-in-Var c = is-variable c.args.bank.now c.in-Var.ensures.sound c.args.t c.in-Var.number c.type_of-ty.result c.requires c.in-Var.ensures.view c.type_of-ty.ensures.number

pub returns-in-Bound : goal.returns-in-Bound
returns-in-Bound c = no-variable _ _ (reads-bound c.in-Bound.ensures.sound c.args.t c.in-Bound.field-0 c.in-Bound.ensures.view) (λ p k. refl)

pub returns-in-Sym : goal.returns-in-Sym
returns-in-Sym c = no-variable _ _ (reads-sym c.in-Sym.ensures.sound c.args.t c.in-Sym.field-0 c.in-Sym.ensures.view) (λ p k. refl)

pub returns-in-App : goal.returns-in-App
returns-in-App c = no-variable _ _ (reads-app c.in-App.ensures.sound c.args.t c.in-App.field-0 c.in-App.field-1 c.in-App.ensures.view) (λ p k. refl)

pub returns-in-Lam : goal.returns-in-Lam
returns-in-Lam c = no-variable _ _ (reads-lam c.in-Lam.ensures.sound c.args.t c.in-Lam.field-0 c.in-Lam.field-1 c.in-Lam.ensures.view) (λ p k. refl)

pub returns-in-Logic : goal.returns-in-Logic
returns-in-Logic c = no-variable _ _ (reads-logic c.in-Logic.ensures.sound c.args.t c.in-Logic.field-0 c.in-Logic.field-1 c.in-Logic.field-2 c.in-Logic.ensures.view) (λ p k. refl)
