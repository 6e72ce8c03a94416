use Rattle.std.proofs.Common.{length}
use Rattle.leo_terms.proofs.CallerLemmas.{reads-var, reads-bound, reads-sym, reads-app, reads-lam, reads-logic}
use Rattle.leo_keep.proofs.Comparing.{argument-raised}
use Rattle.leo_keep.proofs.tops.constant_of.Goals as goal

pub returns-in-Var : goal.returns-in-Var
returns-in-Var c = λ o x y e. (let k = reads-var c.in-Var.ensures.sound c.args.t c.in-Var.field-0 c.in-Var.ensures.view in let z : ⊥ = cc in z)

pub returns-in-Bound : goal.returns-in-Bound
returns-in-Bound c = λ o x y e. (let k = reads-bound c.in-Bound.ensures.sound c.args.t c.in-Bound.field-0 c.in-Bound.ensures.view in let z : ⊥ = cc in z)

pub returns-in-Sym : goal.returns-in-Sym
returns-in-Sym c = λ o x y e. (let k = reads-sym c.in-Sym.ensures.sound c.args.t c.in-Sym.field-0 c.in-Sym.ensures.view in let z : ⊥ = cc in z)

pub returns-in-App : goal.returns-in-App
returns-in-App c = λ o x y e. (let k = reads-app c.in-App.ensures.sound c.args.t c.in-App.field-0 c.in-App.field-1 c.in-App.ensures.view in let z : ⊥ = cc in z)

pub returns-in-Lam : goal.returns-in-Lam
returns-in-Lam c = λ o x y e. (let k = reads-lam c.in-Lam.ensures.sound c.args.t c.in-Lam.field-0 c.in-Lam.field-1 c.in-Lam.ensures.view in let z : ⊥ = cc in z)

pub returns-in-Logic : goal.returns-in-Logic
returns-in-Logic c =
    let h = c.in-Logic.ensures.typed in
    record {
      first_within = argument-raised c.args.t (length c.args.bank.now.terms) c.in-Logic.first c.requires h.first_below;
      second_within = argument-raised c.args.t (length c.args.bank.now.terms) c.in-Logic.second c.requires h.second_below;
      type_within = h.type_below;
      reads = reads-logic c.in-Logic.ensures.sound c.args.t c.in-Logic.op c.in-Logic.first c.in-Logic.second c.in-Logic.ensures.view;
    }
