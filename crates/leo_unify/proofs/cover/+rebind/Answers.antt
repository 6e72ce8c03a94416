use Rattle.std.proofs.Common.{refl, arith}
use Rattle.leo_terms.proofs.CallerLemmas.{extends-itself, extends-trans, reads-var, reads-bound, reads-sym, reads-app}
use Rattle.leo_unify.proofs.CoverSteps.{rebound-closed, rebound-kept, app-applicable, app-rebound, lam-type_later, lam-typed, lam-rebound, logic-takes, logic-rebound}
use Rattle.leo_unify.proofs.cover.+rebind.Goals as goal

pub rebound-returns-then-is_closed_under-clause-made : goal.rebound-returns-then-is_closed_under-clause-made
rebound-returns-then-is_closed_under-clause-made m c = rebound-kept c.args.bank.now c.args.order.now c.args.t c.args.depth c.requires (rebound-closed c.args.order.now _ c.args.depth (c.is_closed_under.ensures c.if-is_closed_under.true))

pub rebound-returns-then-is_closed_under-clause-grows : goal.rebound-returns-then-is_closed_under-clause-grows
rebound-returns-then-is_closed_under-clause-grows m c = extends-itself c.is_sound.ensures.sound

pub rebound-returns-in_default-clause-grows : goal.rebound-returns-in_default-clause-grows
rebound-returns-in_default-clause-grows m c = extends-itself c.is_sound.ensures.sound

pub rebound-rebound_index-requires-clause-reads : goal.rebound-rebound_index-requires-clause-reads
rebound-rebound_index-requires-clause-reads m c = reads-bound c.in-Bound.ensures.sound c.args.t _ c.in-Bound.ensures.view

pub rebound-returns-in_err-argument-in-App-clause-grows : goal.rebound-returns-in_err-argument-in-App-clause-grows
rebound-returns-in_err-argument-in-App-clause-grows m c = extends-trans c.rebound.ensures.grows c.rebound-in-App.ensures.grows

pub rebound-make_app-requires-clause-typed : goal.rebound-make_app-requires-clause-typed
rebound-make_app-requires-clause-typed m c =
    app-applicable c.rebound.ensures.grows c.rebound-in-App.ensures.grows c.args.order.now c.args.depth c.in-App.f c.in-App.x c.in_ok-function-in-App.function c.in_ok-argument-in-App.argument _ c.in-App.ensures.typed.typed c.in_ok-function-in-App.ensures.made c.in_ok-argument-in-App.ensures.made (let l = c.in-App.ensures.typed.argument_below in let k = c.requires in omega arith)

pub rebound-returns-in_err-r-in-App-clause-grows : goal.rebound-returns-in_err-r-in-App-clause-grows
rebound-returns-in_err-r-in-App-clause-grows m c =
    extends-trans (extends-trans c.rebound.ensures.grows c.rebound-in-App.ensures.grows) c.make_app.ensures.grows

pub rebound-returns-in_default-checked_add-clause-grows : goal.rebound-returns-in_default-checked_add-clause-grows
rebound-returns-in_default-checked_add-clause-grows m c = extends-itself c.is_sound.ensures.sound

pub rebound-make_lam-requires-clause-from : goal.rebound-make_lam-requires-clause-from
rebound-make_lam-requires-clause-from m c =
    lam-type_later c.rebound-in-Lam.ensures.grows c.in-Lam.ensures.sound c.args.order.now c.args.t c.in-Lam.ty c.in-Lam.body c.in_ok-inner-in-Lam.inner c.in-Some-checked_add.under c.args.depth _ c.in-Lam.ensures.view c.in-Some-checked_add.ensures.1 c.in_ok-inner-in-Lam.ensures.made

pub rebound-make_lam-requires-clause-typed : goal.rebound-make_lam-requires-clause-typed
rebound-make_lam-requires-clause-typed m c =
    lam-typed c.rebound-in-Lam.ensures.grows c.in-Lam.ensures.sound c.args.order.now c.args.t c.in-Lam.ty c.in-Lam.body c.in_ok-inner-in-Lam.inner c.in-Some-checked_add.under c.args.depth _ c.in-Lam.ensures.view c.in-Some-checked_add.ensures.1 c.in_ok-inner-in-Lam.ensures.made

pub rebound-returns-in_err-r-in-Lam-clause-grows : goal.rebound-returns-in_err-r-in-Lam-clause-grows
rebound-returns-in_err-r-in-Lam-clause-grows m c =
    extends-trans c.rebound-in-Lam.ensures.grows c.make_lam.ensures.grows

pub rebound-returns-in_err-second-in-Logic-clause-grows : goal.rebound-returns-in_err-second-in-Logic-clause-grows
rebound-returns-in_err-second-in-Logic-clause-grows m c =
    extends-trans c.rebound_argument.ensures.grows c.rebound_argument-in-Logic.ensures.grows

pub rebound-with_arguments-requires-clause-typed : goal.rebound-with_arguments-requires-clause-typed
rebound-with_arguments-requires-clause-typed m c =
    logic-takes c.rebound_argument.ensures.grows c.rebound_argument-in-Logic.ensures.grows c.args.order.now c.args.depth c.args.t c.in-Logic.op c.in-Logic.x c.in-Logic.y c.in_ok-first-in-Logic.first c.in_ok-second-in-Logic.second c.in-Logic.ensures.view c.in-Logic.ensures.sound c.requires c.in_ok-first-in-Logic.ensures.made c.in_ok-second-in-Logic.ensures.made

pub rebound-returns-in_err-r-in-Logic-clause-grows : goal.rebound-returns-in_err-r-in-Logic-clause-grows
rebound-returns-in_err-r-in-Logic-clause-grows m c =
    extends-trans (extends-trans c.rebound_argument.ensures.grows c.rebound_argument-in-Logic.ensures.grows) c.with_arguments.ensures.grows

pub rebound-returns-in-Var-clause-made : goal.rebound-returns-in-Var-clause-made
rebound-returns-in-Var-clause-made m c = rebound-kept c.args.bank.now c.args.order.now c.args.t c.args.depth c.requires (rw (reads-var c.in-Var.ensures.sound c.args.t _ c.in-Var.ensures.view) refl)

pub rebound-returns-in-Var-clause-grows : goal.rebound-returns-in-Var-clause-grows
rebound-returns-in-Var-clause-grows m c = extends-itself c.is_sound.ensures.sound

pub rebound-returns-in-Sym-clause-made : goal.rebound-returns-in-Sym-clause-made
rebound-returns-in-Sym-clause-made m c = rebound-kept c.args.bank.now c.args.order.now c.args.t c.args.depth c.requires (rw (reads-sym c.in-Sym.ensures.sound c.args.t _ c.in-Sym.ensures.view) refl)

pub rebound-returns-in-Sym-clause-grows : goal.rebound-returns-in-Sym-clause-grows
rebound-returns-in-Sym-clause-grows m c = extends-itself c.is_sound.ensures.sound

pub rebound-returns-in_ok-r-in-App-clause-made : goal.rebound-returns-in_ok-r-in-App-clause-made
rebound-returns-in_ok-r-in-App-clause-made m c =
    rw (reads-app c.in-App.ensures.sound c.args.t _ _ c.in-App.ensures.view) (app-rebound c.rebound.ensures.grows c.rebound-in-App.ensures.grows c.args.order.now c.args.depth c.in-App.f c.in-App.x c.in_ok-function-in-App.function c.in_ok-argument-in-App.argument _ c.in-App.ensures.typed.typed c.in_ok-function-in-App.ensures.made c.in_ok-argument-in-App.ensures.made (let l = c.in-App.ensures.typed.argument_below in let k = c.requires in omega arith) c.in_ok-r-in-App.ensures.made)

pub rebound-returns-in_ok-r-in-App-clause-grows : goal.rebound-returns-in_ok-r-in-App-clause-grows
rebound-returns-in_ok-r-in-App-clause-grows m c =
    extends-trans (extends-trans c.rebound.ensures.grows c.rebound-in-App.ensures.grows) c.make_app.ensures.grows

pub rebound-returns-in_ok-r-in-Lam-clause-made : goal.rebound-returns-in_ok-r-in-Lam-clause-made
rebound-returns-in_ok-r-in-Lam-clause-made m c =
    lam-rebound c.rebound-in-Lam.ensures.grows c.in-Lam.ensures.sound c.args.order.now c.args.t c.in-Lam.ty c.in-Lam.body c.in_ok-inner-in-Lam.inner c.in-Some-checked_add.under c.args.depth _ c.in-Lam.ensures.view c.in-Some-checked_add.ensures.1 c.in_ok-inner-in-Lam.ensures.made c.make_lam.ensures.grows refl c.in_ok-r-in-Lam.ensures.made c.in_ok-r-in-Lam.ensures.arrow

pub rebound-returns-in_ok-r-in-Lam-clause-grows : goal.rebound-returns-in_ok-r-in-Lam-clause-grows
rebound-returns-in_ok-r-in-Lam-clause-grows m c =
    extends-trans c.rebound-in-Lam.ensures.grows c.make_lam.ensures.grows

pub rebound-returns-in_ok-r-in-Logic-clause-made : goal.rebound-returns-in_ok-r-in-Logic-clause-made
rebound-returns-in_ok-r-in-Logic-clause-made m c =
    logic-rebound c.rebound_argument.ensures.grows c.rebound_argument-in-Logic.ensures.grows c.args.order.now c.args.depth c.args.t c.in-Logic.op c.in-Logic.x c.in-Logic.y c.in_ok-first-in-Logic.first c.in_ok-second-in-Logic.second c.in-Logic.ensures.view c.in-Logic.ensures.sound c.requires c.in_ok-first-in-Logic.ensures.made c.in_ok-second-in-Logic.ensures.made c.in_ok-r-in-Logic.ensures.made

pub rebound-returns-in_ok-r-in-Logic-clause-grows : goal.rebound-returns-in_ok-r-in-Logic-clause-grows
rebound-returns-in_ok-r-in-Logic-clause-grows m c =
    extends-trans (extends-trans c.rebound_argument.ensures.grows c.rebound_argument-in-Logic.ensures.grows) c.with_arguments.ensures.grows

pub rebound_argument-returns-in-None-clause-grows : goal.rebound_argument-returns-in-None-clause-grows
rebound_argument-returns-in-None-clause-grows m c = extends-itself c.is_sound.ensures.sound
