use Rattle.std.proofs.Common.{◌∙◌, sym}
use Rattle.leo_terms.specs.Contents.{argument, tree_at}
use Rattle.leo_terms.proofs.CallerLemmas.{reads-var, reads-bound, reads-sym, reads-app, reads-lam, reads-logic, term-present}
use Rattle.leo_para.specs.Places.{argument_places, places}
use Rattle.leo_para.specs.Reading.{top_at}
use Rattle.leo_para.proofs.Passing.{children, inside-whole, on-false}
use Rattle.leo_para.proofs.meeting.+look.Goals as goal

pub meets_argument-returns-in-None : goal.meets_argument-returns-in-None
meets_argument-returns-in-None m c = rw c.in-None.is tt

pub meets_below-returns-else-meets_below : goal.meets_below-returns-else-meets_below
meets_below-returns-else-meets_below m c =
    on-false c.meets_inside.result
    (λ k. rw (reads-app c.in-App.ensures.sound c.args.t c.in-App.f c.in-App.a c.in-App.ensures.view)
    (children (top_at c.args.bank.now c.args.head.now) (argument_places (tree_at c.args.bank.now c.in-App.f)) (places (tree_at c.args.bank.now c.in-App.a)) (rw c.if-meets_below.false at c.meets_below.ensures) k))
    c.meets_inside.ensures

pub meets_below-returns-else-meets_argument : goal.meets_below-returns-else-meets_argument
meets_below-returns-else-meets_argument m c =
    on-false c.meets_argument-in-Logic.result
    (λ k. rw (reads-logic c.in-Logic.ensures.sound c.args.t c.in-Logic.field-0 c.in-Logic.x c.in-Logic.y c.in-Logic.ensures.view)
    (children (top_at c.args.bank.now c.args.head.now) (places (argument (tree_at c.args.bank.now) c.in-Logic.x)) (places (argument (tree_at c.args.bank.now) c.in-Logic.y)) (rw c.if-meets_argument.false at c.meets_argument.ensures) k))
    c.meets_argument-in-Logic.ensures

pub meets_below-returns-in-Var : goal.meets_below-returns-in-Var
meets_below-returns-in-Var m c = rw (reads-var c.in-Var.ensures.sound c.args.t c.in-Var.field-0 c.in-Var.ensures.view) tt

pub meets_below-returns-in-Bound : goal.meets_below-returns-in-Bound
meets_below-returns-in-Bound m c = rw (reads-bound c.in-Bound.ensures.sound c.args.t c.in-Bound.field-0 c.in-Bound.ensures.view) tt

pub meets_below-returns-in-Sym : goal.meets_below-returns-in-Sym
meets_below-returns-in-Sym m c = rw (reads-sym c.in-Sym.ensures.sound c.args.t c.in-Sym.field-0 c.in-Sym.ensures.view) tt

pub meets_below-returns-in-Lam : goal.meets_below-returns-in-Lam
meets_below-returns-in-Lam m c = rw (reads-lam c.in-Lam.ensures.sound c.args.t c.in-Lam.field-0 c.in-Lam.field-1 c.in-Lam.ensures.view) tt

pub meets_inside-returns : goal.meets_inside-returns
meets_inside-returns m c =
    on-false c.meets_below.result
    (inside-whole (top_at c.args.bank.now c.args.head.now) (tree_at c.args.bank.now c.args.t) (term-present c.is_sound.ensures.sound c.args.t c.requires.within)
    (rw c.head_of.ensures.reads at (sym c.meet.ensures ∙ c.if-meet.false)))
    c.meets_below.ensures
