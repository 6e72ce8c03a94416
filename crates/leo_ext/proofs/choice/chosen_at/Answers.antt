use Rattle.std.proofs.Common.{refl}
use Rattle.leo_terms.proofs.CallerLemmas.{reads-var, reads-bound, reads-sym, reads-app, reads-lam}
use Rattle.leo_ext.proofs.ChoiceMembers.{chosen-logic, not-chosen}
use Rattle.leo_ext.proofs.choice.chosen_at.Goals as goal

pub returns-in-Logic : goal.returns-in-Logic
returns-in-Logic c = chosen-logic c.args.bank.now c.in-Logic.ensures.sound c.args.t c.requires c.in-Logic.op c.in-Logic.x c.in-Logic.field-2 c.chosen_by.result c.in-Logic.ensures.view c.chosen_by.ensures

pub returns-in-Var : goal.returns-in-Var
returns-in-Var c = not-chosen c.args.bank.now c.in-Var.ensures.sound c.args.t c.requires _ (reads-var c.in-Var.ensures.sound c.args.t c.in-Var.field-0 c.in-Var.ensures.view) (λ p k. refl)

pub returns-in-Bound : goal.returns-in-Bound
returns-in-Bound c = not-chosen c.args.bank.now c.in-Bound.ensures.sound c.args.t c.requires _ (reads-bound c.in-Bound.ensures.sound c.args.t c.in-Bound.field-0 c.in-Bound.ensures.view) (λ p k. refl)

pub returns-in-Sym : goal.returns-in-Sym
returns-in-Sym c = not-chosen c.args.bank.now c.in-Sym.ensures.sound c.args.t c.requires _ (reads-sym c.in-Sym.ensures.sound c.args.t c.in-Sym.field-0 c.in-Sym.ensures.view) (λ p k. refl)

pub returns-in-App : goal.returns-in-App
returns-in-App c = not-chosen c.args.bank.now c.in-App.ensures.sound c.args.t c.requires _ (reads-app c.in-App.ensures.sound c.args.t c.in-App.field-0 c.in-App.field-1 c.in-App.ensures.view) (λ p k. refl)

pub returns-in-Lam : goal.returns-in-Lam
returns-in-Lam c = not-chosen c.args.bank.now c.in-Lam.ensures.sound c.args.t c.requires _ (reads-lam c.in-Lam.ensures.sound c.args.t c.in-Lam.field-0 c.in-Lam.field-1 c.in-Lam.ensures.view) (λ p k. refl)
