use Rattle.leo_terms.proofs.CallerLemmas.{reads-var, reads-sym, reads-bound, reads-app, reads-lam, reads-logic}
use Rattle.conclude_rows.proofs.Overs.{on-below, on-both}
use Rattle.conclude_rows.proofs.typing.+over.Goals as goal

pub is_over-returns-in-Var : goal.is_over-returns-in-Var
is_over-returns-in-Var m c =
    rw (reads-var c.in-Var.ensures.sound c.args.t c.in-Var.number c.in-Var.ensures.view) (rw c.type_of.ensures.number at c.is_declared.ensures)

pub is_over-returns-in-Bound : goal.is_over-returns-in-Bound
is_over-returns-in-Bound m c = rw (reads-bound c.in-Bound.ensures.sound c.args.t c.in-Bound.index c.in-Bound.ensures.view) (on-below c.in-Bound.index c.args.depth)

pub is_over-returns-in-Sym : goal.is_over-returns-in-Sym
is_over-returns-in-Sym m c = rw (reads-sym c.in-Sym.ensures.sound c.args.t c.in-Sym.field-0 c.in-Sym.ensures.view) tt

pub is_over-returns-else-not-first : goal.is_over-returns-else-not-first
is_over-returns-else-not-first m c =
    rw (reads-app c.in-App.ensures.sound c.args.t c.in-App.f c.in-App.a c.in-App.ensures.view)
    (on-both c.is_over-first.result c.is_over-second.result _ _ c.is_over-first.ensures c.if-not-first.false c.is_over-second.ensures)

pub is_over-returns-in-Some-checked_add : goal.is_over-returns-in-Some-checked_add
is_over-returns-in-Some-checked_add m c =
    rw (reads-lam c.in-Lam.ensures.sound c.args.t c.in-Lam.field-0 c.in-Lam.body c.in-Lam.ensures.view) (rw c.in-Some-checked_add.ensures.1 at c.is_over-inner.ensures)

pub is_over-returns-else-not-first-2 : goal.is_over-returns-else-not-first-2
is_over-returns-else-not-first-2 m c =
    rw (reads-logic c.in-Logic.ensures.sound c.args.t c.in-Logic.field-0 c.in-Logic.x c.in-Logic.y c.in-Logic.ensures.view)
    (on-both c.is_argument_over-first.result c.is_argument_over-second.result _ _ c.is_argument_over-first.ensures c.if-not-first-2.false c.is_argument_over-second.ensures)
