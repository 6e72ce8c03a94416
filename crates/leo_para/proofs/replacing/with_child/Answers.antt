use Rattle.std.proofs.Common.{ap, sym, arith}
use Rattle.std.proofs.lemmas.Result.{IfOk-weaker}
use Rattle.leo_terms.specs.Contents.{tree_at}
use Rattle.leo_terms.proofs.CallerLemmas.{reads-var, reads-bound, reads-sym, reads-app, reads-lam, reads-logic}
use Rattle.leo_kernel.specs.Moved.{put_child}
use Rattle.leo_para.proofs.Replaced.{app-whole, takes-type, term-as}
use Rattle.leo_para.proofs.replacing.with_child.Goals as goal

pub app_with-requires-clause-applicable : goal.app_with-requires-clause-applicable
app_with-requires-clause-applicable c =
    let f = c.in-App.ensures.typed.function_below in
    let x = c.in-App.ensures.typed.argument_below in
    let t = c.requires.within in
    (app-whole c.args.bank.now c.in-App.ensures.sound c.in-App.f c.in-App.x _ (omega arith) (omega arith) c.in-App.ensures.typed.typed).0

pub app_with-requires-clause-typed : goal.app_with-requires-clause-typed
app_with-requires-clause-typed c = rw (reads-app c.in-App.ensures.sound c.args.t _ _ c.in-App.ensures.view) at c.requires.typed

pub logic_with-requires-clause-typed : goal.logic_with-requires-clause-typed
logic_with-requires-clause-typed c = rw (reads-logic c.in-Logic.ensures.sound c.args.t _ _ _ c.in-Logic.ensures.view) at c.requires.typed

pub unreachable-requires : goal.unreachable-requires
unreachable-requires c = rw (reads-var c.in-Var.ensures.sound c.args.t _ c.in-Var.ensures.view) at c.requires.typed

pub unreachable-requires-in-Bound : goal.unreachable-requires-in-Bound
unreachable-requires-in-Bound c = rw (reads-bound c.in-Bound.ensures.sound c.args.t _ c.in-Bound.ensures.view) at c.requires.typed

pub unreachable-requires-in-Sym : goal.unreachable-requires-in-Sym
unreachable-requires-in-Sym c = rw (reads-sym c.in-Sym.ensures.sound c.args.t _ c.in-Sym.ensures.view) at c.requires.typed

pub unreachable-requires-in-Lam : goal.unreachable-requires-in-Lam
unreachable-requires-in-Lam c = rw (reads-lam c.in-Lam.ensures.sound c.args.t _ _ c.in-Lam.ensures.view) at c.requires.typed

pub returns-in-App-clause-made : goal.returns-in-App-clause-made
returns-in-App-clause-made c =
    let f = c.in-App.ensures.typed.function_below in
    let x = c.in-App.ensures.typed.argument_below in
    let t = c.requires.within in
    IfOk-weaker c.app_with.result _ _
    (λ u m. term-as m (app-whole c.args.bank.now c.in-App.ensures.sound c.in-App.f c.in-App.x _ (omega arith) (omega arith) c.in-App.ensures.typed.typed).1
    (ap (put_child c.args.number (tree_at c.args.bank.now c.args.part)) (sym (reads-app c.in-App.ensures.sound c.args.t _ _ c.in-App.ensures.view))))
    c.app_with.ensures.made

pub returns-in-Logic-clause-made : goal.returns-in-Logic-clause-made
returns-in-Logic-clause-made c =
    IfOk-weaker c.logic_with.result _ _
    (λ u m. term-as m (sym (takes-type c.args.bank.now c.in-Logic.op _ _ _ c.in-Logic.ensures.typed.typed))
    (ap (put_child c.args.number (tree_at c.args.bank.now c.args.part)) (sym (reads-logic c.in-Logic.ensures.sound c.args.t _ _ _ c.in-Logic.ensures.view))))
    c.logic_with.ensures.made
