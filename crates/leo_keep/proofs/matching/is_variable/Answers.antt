use Rattle.leo_terms.proofs.CallerLemmas.{reads-var, reads-bound, reads-sym, reads-app, reads-lam, reads-logic}
use Rattle.leo_keep.proofs.Numbers.{yes, no}
use Rattle.leo_keep.proofs.matching.is_variable.Goals as goal

pub returns-in-Var : goal.returns-in-Var
returns-in-Var c = yes (record { number = _; ty = _; is = reads-var c.in-Var.ensures.sound c.args.t c.in-Var.field-0 c.in-Var.ensures.view })

pub returns-in-Bound : goal.returns-in-Bound
returns-in-Bound c = no (λ h. let k = reads-bound c.in-Bound.ensures.sound c.args.t c.in-Bound.field-0 c.in-Bound.ensures.view in let e = h.is in cc)

pub returns-in-Sym : goal.returns-in-Sym
returns-in-Sym c = no (λ h. let k = reads-sym c.in-Sym.ensures.sound c.args.t c.in-Sym.field-0 c.in-Sym.ensures.view in let e = h.is in cc)

pub returns-in-App : goal.returns-in-App
returns-in-App c = no (λ h. let k = reads-app c.in-App.ensures.sound c.args.t c.in-App.field-0 c.in-App.field-1 c.in-App.ensures.view in let e = h.is in cc)

pub returns-in-Lam : goal.returns-in-Lam
returns-in-Lam c = no (λ h. let k = reads-lam c.in-Lam.ensures.sound c.args.t c.in-Lam.field-0 c.in-Lam.field-1 c.in-Lam.ensures.view in let e = h.is in cc)

pub returns-in-Logic : goal.returns-in-Logic
returns-in-Logic c = no (λ h. let k = reads-logic c.in-Logic.ensures.sound c.args.t c.in-Logic.field-0 c.in-Logic.field-1 c.in-Logic.field-2 c.in-Logic.ensures.view in let e = h.is in cc)
