use Rattle.std.proofs.Common.{sym, refl}
use Rattle.leo_terms.proofs.CallerLemmas.{reads-var, reads-sym, reads-bound, reads-app, reads-lam, reads-logic}
use Rattle.leo_unify.proofs.CoverSteps.{covered-closed, covered-inside, covered-outside, first-fails, second-decides}
use Rattle.leo_unify.proofs.cover.+cover.Goals as goal

pub is_covered-returns-then-has_none : goal.is_covered-returns-then-has_none
is_covered-returns-then-has_none m c =
    let h = c.has_none.ensures c.if-has_none.true in
    sym (covered-closed c.args.number c.args.order.now _ c.args.depth h.0 h.1)

pub is_covered-returns-then-index-depth : goal.is_covered-returns-then-index-depth
is_covered-returns-then-index-depth m c = rw (reads-bound c.in-Bound.ensures.sound c.args.t _ c.in-Bound.ensures.view) (covered-inside c.in-Bound.index c.args.depth _ c.if-index-depth.true)

pub is_covered-returns-else-index-depth : goal.is_covered-returns-else-index-depth
is_covered-returns-else-index-depth m c = rw (reads-bound c.in-Bound.ensures.sound c.args.t _ c.in-Bound.ensures.view) (covered-outside c.in-Bound.index c.args.depth _ _ c.if-index-depth.false c.contains.ensures)

pub is_covered-returns-then-not-first : goal.is_covered-returns-then-not-first
is_covered-returns-then-not-first m c =
    rw (reads-app c.in-App.ensures.sound c.args.t _ _ c.in-App.ensures.view) (first-fails c.in_ok-first-in-App.first _ _ c.in_ok-first-in-App.ensures c.if-not-first.true)

pub is_covered-returns-then-not-first-2 : goal.is_covered-returns-then-not-first-2
is_covered-returns-then-not-first-2 m c =
    rw (reads-logic c.in-Logic.ensures.sound c.args.t _ _ _ c.in-Logic.ensures.view) (first-fails c.in_ok-first-in-Logic.first _ _ c.in_ok-first-in-Logic.ensures c.if-not-first-2.true)

pub is_covered-returns-in-Var : goal.is_covered-returns-in-Var
is_covered-returns-in-Var m c = rw (reads-var c.in-Var.ensures.sound c.args.t _ c.in-Var.ensures.view) refl

pub is_covered-returns-in-Sym : goal.is_covered-returns-in-Sym
is_covered-returns-in-Sym m c = rw (reads-sym c.in-Sym.ensures.sound c.args.t _ c.in-Sym.ensures.view) refl

pub is_covered-returns-in_ok-second-in-App : goal.is_covered-returns-in_ok-second-in-App
is_covered-returns-in_ok-second-in-App m c =
    rw (reads-app c.in-App.ensures.sound c.args.t _ _ c.in-App.ensures.view) (second-decides c.in_ok-first-in-App.first c.in_ok-second-in-App.second _ _ c.in_ok-first-in-App.ensures c.if-not-first.false c.in_ok-second-in-App.ensures)

pub is_covered-returns-in_ok-covered-in-Lam : goal.is_covered-returns-in_ok-covered-in-Lam
is_covered-returns-in_ok-covered-in-Lam m c =
    rw (reads-lam c.in-Lam.ensures.sound c.args.t _ _ c.in-Lam.ensures.view) (rw c.in-Some-checked_add.ensures.1 at c.in_ok-covered-in-Lam.ensures)

pub is_covered-returns-in_ok-second-in-Logic : goal.is_covered-returns-in_ok-second-in-Logic
is_covered-returns-in_ok-second-in-Logic m c =
    rw (reads-logic c.in-Logic.ensures.sound c.args.t _ _ _ c.in-Logic.ensures.view) (second-decides c.in_ok-first-in-Logic.first c.in_ok-second-in-Logic.second _ _ c.in_ok-first-in-Logic.ensures c.if-not-first-2.false c.in_ok-second-in-Logic.ensures)
