use Rattle.std.proofs.Common.{sym, ap, arith}
use Rattle.leo_terms.specs.Contents.{tree_at, type_at, type_number}
use Rattle.leo_terms.specs.Facts.{variable_range}
use Rattle.leo_terms.proofs.CallerLemmas.{reads-var, reads-bound, reads-sym, reads-app, reads-lam, reads-logic}
use Rattle.leo_kernel.proofs.ChosenSteps.{found, leads-body, apart-var, apart-lam}
use Rattle.leo_kernel.proofs.chosen_matching.step_from.Goals as goal

pub from_app-requires-clause-reads : goal.from_app-requires-clause-reads
from_app-requires-clause-reads c = reads-app c.in-App.ensures.sound c.args.s c.in-App.f c.in-App.x c.in-App.ensures.view

pub from_logic-requires-clause-reads : goal.from_logic-requires-clause-reads
from_logic-requires-clause-reads c = reads-logic c.in-Logic.ensures.sound c.args.s c.in-Logic.op c.in-Logic.x c.in-Logic.y c.in-Logic.ensures.view

pub unreachable-requires : goal.unreachable-requires
unreachable-requires c =
    let e = ap variable_range (reads-bound c.in-Bound.ensures.sound c.args.s c.in-Bound.field-0 c.in-Bound.ensures.view) in
    let l = c.requires.variable in
    omega arith

pub unreachable-requires-in-Sym : goal.unreachable-requires-in-Sym
unreachable-requires-in-Sym c =
    let e = ap variable_range (reads-sym c.in-Sym.ensures.sound c.args.s c.in-Sym.field-0 c.in-Sym.ensures.view) in
    let l = c.requires.variable in
    omega arith

pub returns-in-Var-view : goal.returns-in-Var-view
returns-in-Var-view c =
    found (tree_at c.args.bank.now c.args.s) (tree_at c.args.bank.now c.args.t) c.in-Var.field-0 c.in-Var-view.number (type_at c.args.bank.now (type_number c.args.bank.now c.args.s)) (type_at c.args.bank.now (type_number c.args.bank.now c.args.t))
    (reads-var c.in-Var.ensures.sound c.args.s c.in-Var.field-0 c.in-Var.ensures.view) (reads-var c.in-Var.ensures.sound c.args.t c.in-Var-view.number c.in-Var-view.ensures.view)

pub returns-in_default : goal.returns-in_default
returns-in_default c =
    apart-var c.args.bank.now c.in-Var.ensures.sound c.args.t c.view-in-Var.result c.view-in-Var.ensures.view (tree_at c.args.bank.now c.args.s) c.in_default.not-Var c.in-Var.field-0 (type_at c.args.bank.now (type_number c.args.bank.now c.args.s)) (reads-var c.in-Var.ensures.sound c.args.s c.in-Var.field-0 c.in-Var.ensures.view)

pub returns-in-Lam-view : goal.returns-in-Lam-view
returns-in-Lam-view c =
    let p = c.in-Lam.ensures.typed.body_below in
    let q = c.in-Lam-view.ensures.typed.body_below in
    let k = c.requires.other in
    let first = reads-lam c.in-Lam.ensures.sound c.args.s c.in-Lam.field-0 c.in-Lam.body c.in-Lam.ensures.view in
    let second = reads-lam c.in-Lam.ensures.sound c.args.t c.in-Lam-view.field-0 c.in-Lam-view.inner c.in-Lam-view.ensures.view in
    record {
      falls = p;
      within = omega arith;
      range_is = sym (ap variable_range first);
      parts = leads-body (tree_at c.args.bank.now c.args.s) (tree_at c.args.bank.now c.args.t) (tree_at c.args.bank.now c.in-Lam.body) (tree_at c.args.bank.now c.in-Lam-view.inner) (type_at c.args.bank.now c.in-Lam.field-0) (type_at c.args.bank.now c.in-Lam-view.field-0) first second;
    }

pub returns-in_default-view : goal.returns-in_default-view
returns-in_default-view c =
    apart-lam c.args.bank.now c.in-Lam.ensures.sound c.args.t c.view-in-Lam.result c.view-in-Lam.ensures.view (tree_at c.args.bank.now c.args.s) c.in_default-view.not-Lam (type_at c.args.bank.now c.in-Lam.field-0) (tree_at c.args.bank.now c.in-Lam.body) (reads-lam c.in-Lam.ensures.sound c.args.s c.in-Lam.field-0 c.in-Lam.body c.in-Lam.ensures.view)
